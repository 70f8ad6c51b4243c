use Rattle.std.proofs.lemmas.Result.{err_from_is_err_and}
use Rattle.eos_checking.proofs.SourceAnswers.{answer_is}
use Rattle.eos_checking.proofs.source.answer_source.Goals as goal

pub returns-clause-answer : goal.returns-clause-answer
returns-clause-answer g c =
    let asked = c.args.asked.now in
    answer_is _ c.args.pieces.shape.now asked.subject asked.json asked.quiet asked.terms asked.report c.in_ok-noted.noted.judged _ c.in_ok-noted.ensures.judged (rw c.in_ok-answer.was at c.first_told-answer.ensures.told)

pub returns-in_err-noted-clause-refused : goal.returns-in_err-noted-clause-refused
returns-in_err-noted-clause-refused g c =
    let p = err_from_is_err_and c.from_residual.result c.from_residual.ensures.1 in
    rw (p.1, p.2) c.in_err-noted.ensures.refused
