use Rattle.std.proofs.Common.{inl, inr, refl}
use Rattle.std.specs.Option.{option_copied}
use Rattle.eos_picture.specs.Told.{tellings}
use Rattle.eos_picture.proofs.Tellings.{told_mark}
use Rattle.eos_picture.proofs.drawn_rows.draw_if_room.Goals as goal

pub returns-then-is_full : goal.returns-then-is_full
returns-then-is_full c = inr (c.is_full.ensures c.if-is_full.true, refl)

pub returns : goal.returns
returns c = inl (told_mark (tellings c.args.canvas.now.shapes.items) (tellings c.draw_shape.new.canvas.shapes.items) _ c.args.marked.name.now (option_copied c.args.marked.column) c.args.marked.time c.args.marked.mark.now _ _
    c.in_ok-at.ensures c.in_ok-text.ensures c.in_ok-told.ensures)
