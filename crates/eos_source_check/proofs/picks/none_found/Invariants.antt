use Rattle.std.proofs.Common.{◌≡◌, [], map, take}
use Rattle.eos_source_check.specs.Picked.{found_in}
use Rattle.eos_source_check.proofs.picks.none_found.Given as goal

abbrev pub invariant-loop-place : goal.invariant-loop-place
invariant-loop-place l = l.found.items ≡ map (found_in []) (take l._place-index l.places)
