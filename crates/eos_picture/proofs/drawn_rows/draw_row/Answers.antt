use Rattle.eos_picture.specs.Told.{tellings, AreTold}
use Rattle.eos_picture.proofs.Tellings.{row_told}
use Rattle.eos_picture.proofs.drawn_rows.draw_row.Goals as goal

pub returns : goal.returns
returns c =
    let told = c.args.told in
    row_told (tellings c.args.canvas.now.shapes.items) (tellings c.draw_frame.new.canvas.shapes.items) (tellings c.draw_marks.new.canvas.shapes.items) (tellings c.draw_left_out.new.canvas.shapes.items)
    (AreTold told.row.now.name told.columns.now told.times.now told.row.now.marks.items) c.in_ok-draw_frame.ensures c.in_ok-draw_marks.ensures c.in_ok-draw_left_out.ensures
