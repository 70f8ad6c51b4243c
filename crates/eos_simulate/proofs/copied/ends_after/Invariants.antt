-- What comes of the ends so far.
use Rattle.std.proofs.Common.{◌≡◌, flat_map, take}
use Rattle.eos_simulate.specs.Collecting.{end_after}
use Rattle.eos_simulate.proofs.copied.ends_after.Given as goal

abbrev pub invariant-loop-end : goal.invariant-loop-end
invariant-loop-end l = l.all ≡ flat_map (end_after l.mistake) (take l.end-index l.ends)
