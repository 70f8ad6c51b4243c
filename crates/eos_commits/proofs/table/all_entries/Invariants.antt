use Rattle.std.proofs.Common.{◌≡◌, take, map}
use Rattle.eos_commits.specs.steps.Entries.{entries_by, is_read, plain_entry}
use Rattle.eos_commits.proofs.table.all_entries.Given as goal

abbrev pub invariant-loop-part : goal.invariant-loop-part
invariant-loop-part l = map plain_entry l.all.items ≡ entries_by (is_read l.roles.sources) (take l.part-index l.parts)
