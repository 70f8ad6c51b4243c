use Rattle.std.proofs.Common.{ℕ, ℤ, List, arith, refl, subst}
use Rattle.eos_picture.specs.Told.{tellings, AreTold}
use Rattle.eos_picture.proofs.Tellings.{no_rows_passed, row_passed, all_rows_passed}
use Rattle.eos_picture.proofs.layout.draw_rows.Goals as goal

pub loop-i-init : goal.loop-i-init
loop-i-init c =
    let before = tellings c.args.canvas.now.shapes.items in
    no_rows_passed c.as_slice-columns.result.now c.as_slice-rows.result.now c.args.times.now before before refl

pub loop-i-preserved : goal.loop-i-preserved
loop-i-preserved c =
    let columns = c.as_slice-columns.result.now in
    let row = c.index-rows-i.result in
    let t = c.in_ok-end.ensures in
    row_passed columns c.as_slice-rows.result.now c.args.times.now (tellings c.args.canvas.now.shapes.items) c.loop-i.i row (tellings c.loop-i.canvas.shapes.items) (tellings c.draw_row.new.canvas.shapes.items) c.loop-i-test.true
    c.index-rows-i.is c.loop-i.invariant (t.0, t.1, subst (λ (times : List (ℕ × ℤ)). AreTold row.name columns times row.marks.items t.0) c.times_of.ensures t.2)

pub returns : goal.returns
returns c =
    all_rows_passed c.as_slice-columns.result.now c.args.picture.now.columns.items c.as_slice-rows.result.now c.args.picture.now.rows.items c.args.times.now (tellings c.args.canvas.now.shapes.items) c.loop-i.i
    (tellings c.loop-i.canvas.shapes.items) c.as_slice-columns.ensures.value c.as_slice-rows.ensures.value (omega (arith, c.loop-i-test.false)) c.loop-i.invariant
