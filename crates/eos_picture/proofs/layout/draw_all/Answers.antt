use Rattle.eos_picture.specs.Told.{tellings}
use Rattle.eos_picture.proofs.Tellings.{all_told}
use Rattle.eos_picture.proofs.layout.draw_all.Goals as goal

pub returns : goal.returns
returns c =
    let picture = c.args.picture.now in
    all_told picture.columns.items picture.rows.items c.args.times.now (tellings c.args.canvas.now.shapes.items) (tellings c.draw_head.new.canvas.shapes.items) (tellings c.draw_headings.new.canvas.shapes.items)
    (tellings c.draw_rows.new.canvas.shapes.items) (tellings c.draw_legend.new.canvas.shapes.items) c.requires.none c.in_ok-top.ensures c.in_ok-draw_headings.ensures c.in_ok-bottom.ensures c.in_ok-draw_legend.ensures
