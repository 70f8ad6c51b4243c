-- The batches of the files so far.
use Rattle.std.proofs.Common.{◌≡◌, take}
use Rattle.eos_simulate.specs.Cleaning.{log_of}
use Rattle.eos_simulate.proofs.cleaning.log_of.Given as goal

abbrev pub invariant-loop-file : goal.invariant-loop-file
invariant-loop-file l = l.log.items ≡ log_of l.mistake (take l.file-index l.files)
