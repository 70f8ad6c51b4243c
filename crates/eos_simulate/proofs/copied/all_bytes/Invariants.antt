-- The bytes of the files so far.
use Rattle.std.proofs.Common.{◌≡◌, take}
use Rattle.eos_simulate.specs.Collecting.{all_bytes}
use Rattle.eos_simulate.proofs.copied.all_bytes.Given as goal

abbrev pub invariant-loop-file : goal.invariant-loop-file
invariant-loop-file l = l.all.items ≡ all_bytes l.mistake (take l.file-index l.files)
