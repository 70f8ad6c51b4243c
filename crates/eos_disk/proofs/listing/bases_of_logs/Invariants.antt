-- The logs of the files that are left go on with those so far.
use Rattle.std.proofs.Common.{◌≡◌, ◌++◌, drop}
use Rattle.eos_disk.specs.Shapes.{log_bases}
use Rattle.eos_disk.proofs.listing.bases_of_logs.Given as goal

abbrev pub invariant-loop-file : goal.invariant-loop-file
invariant-loop-file l = l.bases.items ++ log_bases (drop l.file-index l.files) ≡ log_bases l.files
