use Rattle.std.proofs.Common.{◌≡◌}
use Rattle.eos_picture.specs.Told.{tellings}
use Rattle.eos_picture.proofs.drawn_rows.draw_left_out.Given as goal

abbrev pub invariant-loop-column : goal.invariant-loop-column
invariant-loop-column l = tellings l.canvas.shapes.items ≡ tellings l.fn.canvas.shapes.items
