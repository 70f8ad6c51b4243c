use Rattle.std.proofs.Common.{◌∙◌, inr, sym, subst}
use Rattle.std.specs.Prelude.{IfSome}
use Rattle.eos_source.specs.Said.{known_by}
use Rattle.eos_explaining.specs.steps.Tellings.{IsAnswer}
use Rattle.eos_explaining.proofs.Answered.{by_judged}
use Rattle.eos_explaining.proofs.answer.answer_judged.Goals as goal

pub returns-in-Ok-Some-clause-answer : goal.returns-in-Ok-Some-clause-answer
returns-in-Ok-Some-clause-answer g c =
    let source = c.args.pieces.now.source.now in
    let folder = c.args.asked.now.folder.now in
    let number = c.args.asked.now.number in
    by_judged (known_by (g.S.Source.said source) (g.S.Source.is_log source)) c.args.pieces.now.shape.now c.args.judged (λ e. IsAnswer folder e number c.in-Ok-Some.answer)
    (λ e spec j. subst (λ o. IfSome o (IsAnswer folder e number)) c.in-Ok-Some.field-0-is (c.in-Ok-Some.ensures e folder number (spec ∙ sym c.spec.ensures.value) j))

pub returns-in-Err-clause-refused : goal.returns-in-Err-clause-refused
returns-in-Err-clause-refused g c = inr tt
