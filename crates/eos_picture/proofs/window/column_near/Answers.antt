use Rattle.std.proofs.Common.{Some, None, sym, subst, ◌∙◌}
use Rattle.eos_picture.proofs.TrueMarks.{has_item}
use Rattle.eos_picture.specs.steps.Found.{IsPlaceOf}
use Rattle.eos_picture.proofs.WholeRows.{of_writer, some_same}
use Rattle.eos_picture.proofs.window.column_near.Goals as goal

pub returns-in-Some-clause-of : goal.returns-in-Some-clause-of
returns-in-Some-clause-of c =
    let here = has_item c.args.logs.now c.loop-part.part-index _ c.part-item.result c.part-item.is c.loop-part-test.true in
    of_writer c.args.logs.now c.args.columns.now (record { partition = c.args.name.now; offset = c.args.offset }) c.part-item.result c.column_of.result (Some c.in-Some.writer) here (c.is_named.ensures.yes c.if-is_named.true)
    (λ x w has at by. sym c.in-Some.is ∙ c.writer_near.ensures x w has at by) (λ w e. subst (λ z. IsPlaceOf c.args.columns.now z c.column_of.result) (some_same c.in-Some.writer w e) c.column_of.ensures.place)

pub returns-in-None-clause-of : goal.returns-in-None-clause-of
returns-in-None-clause-of c =
    let here = has_item c.args.logs.now c.loop-part.part-index _ c.part-item.result c.part-item.is c.loop-part-test.true in
    of_writer c.args.logs.now c.args.columns.now (record { partition = c.args.name.now; offset = c.args.offset }) c.part-item.result None None here (c.is_named.ensures.yes c.if-is_named.true)
    (λ x w has at by. sym c.in-None.is ∙ c.writer_near.ensures x w has at by) (λ w e. absurd cc)
