use Rattle.std.proofs.Common.{◌≡◌, length}
use Rattle.eos_picture.proofs.cells.cells_of.Given as goal

abbrev pub invariant-loop-mark : goal.invariant-loop-mark
invariant-loop-mark l = length l.cells.items ≡ l.columns
