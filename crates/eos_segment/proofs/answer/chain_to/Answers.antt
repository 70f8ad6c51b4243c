use Rattle.std.proofs.lemmas.Result.{err_from_is_err_and}
use Rattle.eos_text.proofs.Fronts.{front_of_line}
use Rattle.eos_segment.proofs.Runs.{read_only, in_part}
use Rattle.eos_segment.specs.Answer.{IsChainAnswer}
use Rattle.eos_segment.specs.Running.{ReadsSegment}
use Rattle.eos_segment.proofs.answer.chain_to.Goals as goal

pub returns-in_err-status-clause-ran : goal.returns-in_err-status-clause-ran
returns-in_err-status-clause-ran g c =
    let p = err_from_is_err_and c.from_residual-in_err-status.result c.from_residual-in_err-status.ensures.1 in
    let e = c.in_ok-answer.ensures.ok in
    rw (p.1, p.2) (read_only IsChainAnswer _ _ _ e.0 (record { all = e.1; end = c.in_ok-answer.ensures.end; within = e.2 }))

pub returns-in_err-finish-clause-ran : goal.returns-in_err-finish-clause-ran
returns-in_err-finish-clause-ran g c =
    let p = err_from_is_err_and c.from_residual-in_err-finish.result c.from_residual-in_err-finish.ensures.1 in
    let e = c.in_ok-answer.ensures.ok in
    let a = c.in_ok-status.ensures e.0 e.3 in
    let front = front_of_line _ _ _ _ _ a.0 c.new-line.ensures.bytes a.2 c.as_bytes.ensures.value c.in_err-finish.ensures.front in
    let read : ReadsSegment _ _ _ = record { all = e.1; end = c.in_ok-answer.ensures.end; within = e.2 } in
    rw p.1 (in_part IsChainAnswer _ _ _ _ e.0 _ read p.2 (a.0, c.in_ok-status.status, a.1, front))
