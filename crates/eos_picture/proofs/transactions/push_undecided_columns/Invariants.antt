use Rattle.std.proofs.Common.{◌≡◌, ◌++◌, map, take}
use Rattle.eos_picture.specs.Transactions.{undecided_column}
use Rattle.eos_picture.proofs.transactions.push_undecided_columns.Given as goal

abbrev pub invariant-loop-writer : goal.invariant-loop-writer
invariant-loop-writer l = l.columns.items ≡ l.fn.columns.items ++ map undecided_column (take l.writer-index l.others)
