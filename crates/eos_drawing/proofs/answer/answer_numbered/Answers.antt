use Rattle.std.proofs.Common.{◌≤◌, inr, arith}
use Rattle.std.proofs.lemmas.Result.{err_from_is_err_and}
use Rattle.eos_source.specs.Said.{known_by}
use Rattle.eos_drawing.proofs.JudgedAnswers.{first_shown}
use Rattle.eos_drawing.proofs.answer.answer_numbered.Goals as goal

pub returns-clause-answer : goal.returns-clause-answer
returns-clause-answer g c =
    let source = c.args.pieces.source.now in
    let first : c.args.number ≤ 1 = omega (arith, c.if-number-gt1.false) in
    first_shown (known_by (g.S.Source.said source) (g.S.Source.is_log source)) c.args.pieces.shape.now c.args.judged.now c.args.wanted.fault c.args.wanted.around c.args.number c.in_ok-drawn.drawn
    c.requires.number first c.requires.no c.in_ok-drawn.ensures.drawn

pub returns-in_err-drawn-clause-refused : goal.returns-in_err-drawn-clause-refused
returns-in_err-drawn-clause-refused g c =
    let p = err_from_is_err_and c.from_residual.result c.from_residual.ensures.1 in
    rw (p.1, p.2) (inr c.in_err-drawn.ensures.refused)
