use Rattle.eos_picture.specs.Told.{tellings}
use Rattle.eos_picture.proofs.Tellings.{RowsPassed}
use Rattle.eos_picture.proofs.layout.draw_rows.Given as goal

abbrev pub invariant-loop-i : goal.invariant-loop-i
invariant-loop-i l = RowsPassed l.columns l.rows l.times (tellings l.fn.canvas.shapes.items) l.i (tellings l.canvas.shapes.items)
