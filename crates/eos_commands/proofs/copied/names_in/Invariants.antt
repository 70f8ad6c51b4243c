-- The partitions of the names that are left go on with those so far.
use Rattle.std.proofs.Common.{◌≡◌, ◌++◌, drop}
use Rattle.eos_commands.specs.Copies.{names_in}
use Rattle.eos_commands.proofs.copied.names_in.Given as goal

abbrev pub invariant-loop-name : goal.invariant-loop-name
invariant-loop-name l = l.names.items ++ names_in (drop l.name-index l.listed) ≡ names_in l.listed
