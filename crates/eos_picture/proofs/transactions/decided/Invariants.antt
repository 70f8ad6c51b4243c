use Rattle.std.proofs.Common.{◌≡◌, ◌++◌, drop}
use Rattle.std.specs.List.{flat_map}
use Rattle.eos_table.specs.TransactionLog.{all_steps, transaction_parts}
use Rattle.eos_picture.specs.Transactions.{column_at}
use Rattle.eos_picture.proofs.transactions.decided.Given as goal

-- what is left to read
abbrev pub invariant-loop-part : goal.invariant-loop-part
invariant-loop-part l = l.columns.items ++ flat_map column_at (all_steps (transaction_parts (drop l.part-index l.logs))) ≡ flat_map column_at (all_steps (transaction_parts l.logs))
