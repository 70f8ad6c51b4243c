use Rattle.std.proofs.Common.{◌≡◌, take, map}
use Rattle.eos_commits.specs.NameTables.{plain_name}
use Rattle.eos_commits.proofs.name.refs_of.Given as goal

abbrev pub invariant-loop-name : goal.invariant-loop-name
invariant-loop-name l = map plain_name l.refs.items ≡ take l.name-index l.names
