use Rattle.std.proofs.Common.{inl, inr}
use Rattle.std.proofs.lemmas.Result.{err_from_is_err_and}
use Rattle.eos_source.specs.Said.{known_by}
use Rattle.eos_drawing.proofs.JudgedAnswers.{later_is, later_shown, later_lacks}
use Rattle.eos_drawing.proofs.answer.answer_later.Goals as goal

pub returns-in_ok-drawn-in-Ok-clause-answer : goal.returns-in_ok-drawn-in-Ok-clause-answer
returns-in_ok-drawn-in-Ok-clause-answer g c =
    let source = c.args.pieces.source.now in
    later_shown (known_by (g.S.Source.said source) (g.S.Source.is_log source)) c.args.pieces.shape.now c.args.judged.now c.args.wanted.fault c.args.wanted.around c.args.number
    c.in_ok-faults.faults.items c.in-Ok.verdict c.in_ok-drawn-in-Ok.field-0 c.requires.number c.requires.later c.in_ok-faults.ensures.ok c.in-Ok.ensures.ok c.in_ok-drawn-in-Ok.ensures.drawn

pub returns-in-Err-clause-answer : goal.returns-in-Err-clause-answer
returns-in-Err-clause-answer g c =
    let source = c.args.pieces.source.now in
    later_lacks (known_by (g.S.Source.said source) (g.S.Source.is_log source)) c.args.pieces.shape.now c.args.judged.now c.args.wanted.fault c.args.wanted.around c.args.number c.in-Err.count
    c.in_ok-faults.faults.items c.requires.number c.requires.later c.in_ok-faults.ensures.ok c.in-Err.ensures.err

pub returns-in_err-faults-clause-refused : goal.returns-in_err-faults-clause-refused
returns-in_err-faults-clause-refused g c =
    let p = err_from_is_err_and c.from_residual.result c.from_residual.ensures.1 in
    rw (p.1, p.2) (inl (later_is c.args.wanted.fault c.args.number c.requires.number c.requires.later, c.in_err-faults.ensures.earned))

pub returns-in_err-drawn-in-Ok-clause-refused : goal.returns-in_err-drawn-in-Ok-clause-refused
returns-in_err-drawn-in-Ok-clause-refused g c =
    let p = err_from_is_err_and c.from_residual-in_err-drawn-in-Ok.result c.from_residual-in_err-drawn-in-Ok.ensures.1 in
    rw (p.1, p.2) (inr c.in_err-drawn-in-Ok.ensures.refused)
