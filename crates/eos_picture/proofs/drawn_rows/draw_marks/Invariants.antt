use Rattle.std.proofs.Common.{◌≡◌, length}
use Rattle.eos_picture.specs.Told.{tellings}
use Rattle.eos_picture.proofs.Tellings.{Passed}
use Rattle.eos_picture.proofs.drawn_rows.draw_marks.Given as goal

abbrev pub invariant-loop-mark : goal.invariant-loop-mark
invariant-loop-mark l = record {
  room : length l.drawn.items ≡ l.columns;
  told : Passed l.fn.told.row.now.name l.fn.told.columns.now l.fn.told.times.now l.marks (tellings l.fn.canvas.shapes.items) l.mark-index (tellings l.canvas.shapes.items);
}
