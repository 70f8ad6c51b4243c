-- What comes of the files so far.
use Rattle.std.proofs.Common.{◌≡◌, flat_map, take}
use Rattle.eos_simulate.specs.Collecting.{file_after}
use Rattle.eos_simulate.proofs.copied.each_after.Given as goal

abbrev pub invariant-loop-file : goal.invariant-loop-file
invariant-loop-file l = l.all ≡ flat_map (file_after l.mistake l.files) (take l.file-index l.files)
