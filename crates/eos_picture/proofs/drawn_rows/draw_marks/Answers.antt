use Rattle.std.proofs.Common.{refl, arith, ◌∙◌}
use Rattle.std.specs.Prelude.{slice_get}
use Rattle.std.specs.Option.{option_copied}
use Rattle.eos_picture.specs.Titles.{mark_offset, time_at}
use Rattle.eos_picture.specs.Told.{tellings}
use Rattle.eos_picture.proofs.Tellings.{told_if, none_passed, one_passed, all_passed}
use Rattle.eos_picture.proofs.drawn_rows.draw_marks.Goals as goal

pub loop-mark-init : goal.loop-mark-init
loop-mark-init c =
    let told = c.args.told in
    let before = tellings c.args.canvas.now.shapes.items in
    record { room = c.in_ok-drawn.ensures; told = none_passed told.row.now.name told.columns.now told.times.now c.as_slice-marks.result.now before before refl }

pub loop-mark-preserved : goal.loop-mark-preserved
loop-mark-preserved c =
    let told = c.args.told in
    let mark = c.mark-item.result in
    let now = tellings c.loop-mark.canvas.shapes.items in
    let after = tellings c.draw_if_room.new.canvas.shapes.items in
    let marked = c.marked.result in
    record {
      room = c.put_mark.ensures ∙ c.loop-mark.invariant.room;
      told = one_passed told.row.now.name told.columns.now told.times.now c.as_slice-marks.result.now (tellings c.args.canvas.now.shapes.items) c.loop-mark.mark-index mark c.loop-mark-test.true c.mark-item.is now after c.loop-mark.invariant.told
          (told_if now after marked.name.now told.row.now.name (option_copied marked.column) (slice_get told.columns.now mark.column) marked.time (time_at told.times.now (mark_offset mark)) marked.mark.now mark c.marked.ensures.name
          c.marked.ensures.column c.marked.ensures.time c.marked.ensures.mark c.in_ok-draw_if_room.ensures);
    }

pub returns : goal.returns
returns c =
    let told = c.args.told in
    all_passed told.row.now.name told.columns.now told.times.now c.as_slice-marks.result.now told.row.now.marks.items (tellings c.args.canvas.now.shapes.items) c.loop-mark.mark-index (tellings c.loop-mark.canvas.shapes.items)
    c.as_slice-marks.ensures.value (omega (arith, c.loop-mark-test.false)) c.loop-mark.invariant.told
