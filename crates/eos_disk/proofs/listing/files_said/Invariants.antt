-- The files of the names that are left go on with those so far.
use Rattle.std.proofs.Common.{◌≡◌, ◌++◌, drop}
use Rattle.eos_disk.specs.Shapes.{files_said}
use Rattle.eos_disk.proofs.listing.files_said.Given as goal

abbrev pub invariant-loop-name : goal.invariant-loop-name
invariant-loop-name l = l.files.items ++ files_said (drop l.name-index l.names) ≡ files_said l.names
