use Rattle.std.proofs.Common.{inr}
use Rattle.std.proofs.lemmas.Result.{err_from_is_err_and}
use Rattle.eos_source.specs.Said.{known_by}
use Rattle.eos_drawing.proofs.JudgedAnswers.{none_of_yes}
use Rattle.eos_drawing.proofs.answer.answer_judged.Goals as goal

pub returns-in-Yes-clause-answer : goal.returns-in-Yes-clause-answer
returns-in-Yes-clause-answer g c =
    let source = c.args.pieces.source.now in
    none_of_yes (known_by (g.S.Source.said source) (g.S.Source.is_log source)) c.args.pieces.shape.now c.args.judged.now c.args.wanted.fault c.args.wanted.around c.in-Some.number _ c.in-Some.is c.in-Yes.is

pub returns-in_err-drawn-in-None-clause-refused : goal.returns-in_err-drawn-in-None-clause-refused
returns-in_err-drawn-in-None-clause-refused g c =
    let p = err_from_is_err_and c.from_residual.result c.from_residual.ensures.1 in
    rw (p.1, p.2) (inr c.in_err-drawn-in-None.ensures.refused)
