use Rattle.std.proofs.Common.{inl}
use Rattle.std.proofs.lemmas.Result.{IfOk-weaker, IfErr-weaker}
use Rattle.eos_source.specs.Said.{known_by}
use Rattle.eos_explaining.specs.steps.Tellings.{IsAnswer}
use Rattle.eos_explaining.proofs.Answered.{of_judged}
use Rattle.eos_explaining.proofs.Untold.{after}
use Rattle.eos_explaining.proofs.answer.explain.Goals as goal

pub returns-in-Ok-clause-answer : goal.returns-in-Ok-clause-answer
returns-in-Ok-clause-answer g c =
    let source = c.args.pieces.source.now in
    let asked = c.args.asked.now in
    IfOk-weaker c.answer_judged.result _ _ (λ answer told. of_judged (known_by (g.S.Source.said source) (g.S.Source.is_log source)) c.args.pieces.shape.now c.in-Ok.judged (λ e. IsAnswer asked.folder.now e asked.number answer)
    c.in-Ok.ensures.judged told) c.answer_judged.ensures.answer

pub returns-in-Ok-clause-opened : goal.returns-in-Ok-clause-opened
returns-in-Ok-clause-opened g c = IfOk-weaker c.answer_judged.result _ _ (λ answer told. c.in-Ok.ensures.opened) c.answer_judged.ensures.answer

pub returns-in-Ok-clause-refused : goal.returns-in-Ok-clause-refused
returns-in-Ok-clause-refused g c =
    let source = c.args.pieces.source.now in
    IfErr-weaker c.answer_judged.result _ _ (λ why refused. after (known_by (g.S.Source.said source) (g.S.Source.is_log source)) (g.S.Source.outcomes source) _ c.args.pieces.shape.now.partitions c.in-Ok.judged
    why c.in-Ok.ensures.opened refused) c.answer_judged.ensures.refused

pub returns-in-Err-clause-refused : goal.returns-in-Err-clause-refused
returns-in-Err-clause-refused g c = inl c.in-Err.ensures.refused
