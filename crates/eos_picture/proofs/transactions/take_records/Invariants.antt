use Rattle.std.proofs.Common.{◌≡◌, ◌++◌, length}
use Rattle.std.specs.List.{flat_map}
use Rattle.eos_table.specs.TransactionLog.{state_of, steps_after, steps_of}
use Rattle.eos_picture.specs.Transactions.{column_at}
use Rattle.eos_picture.proofs.transactions.take_records.Given as goal

-- what is left to read
abbrev pub invariant-loop-item : goal.invariant-loop-item
invariant-loop-item l = l.columns.items ++ flat_map column_at (steps_after (state_of l.last) l.part.number l.items) ≡ l.fn.columns.items ++ flat_map column_at (steps_of l.part)

abbrev pub decreases-loop-item : goal.decreases-loop-item
decreases-loop-item l = length l.items
