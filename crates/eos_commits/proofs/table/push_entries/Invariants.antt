use Rattle.std.proofs.Common.{◌≡◌, ◌++◌, length, map, flat_map}
use Rattle.eos_commits.specs.steps.Entries.{entry_at, is_read, plain_entry}
use Rattle.eos_commits.proofs.table.push_entries.Given as goal

-- those found, and what is left
abbrev pub invariant-loop-item : goal.invariant-loop-item
invariant-loop-item l = map plain_entry l.all.items ++ flat_map (entry_at (is_read l.roles.sources)) l.records ≡ map plain_entry l.fn.all.items ++ flat_map (entry_at (is_read l.roles.sources)) l.part.items

abbrev pub decreases-loop-item : goal.decreases-loop-item
decreases-loop-item l = length l.records
