use Rattle.eos_picture.proofs.WholeRows.{IsAhead}
use Rattle.eos_picture.proofs.window.column_near.Given as goal

abbrev pub invariant-loop-part : goal.invariant-loop-part
invariant-loop-part l = IsAhead l.logs l.part-index l.name
