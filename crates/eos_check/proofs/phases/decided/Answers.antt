use Rattle.std.proofs.Common.{subst}
use Rattle.eos_check.specs.steps.Phases.{IsLogAnswer, IsMatched, IsTransacted}
use Rattle.eos_check.proofs.PhaseAnswers.{if_ok, matched_found}
use Rattle.eos_check.proofs.TransactionLogInOrder.{log_in_order}
use Rattle.eos_check.proofs.phases.decided.Goals as goal

pub returns-in-Err : goal.returns-in-Err
returns-in-Err g c = λ is apps. subst (IsLogAnswer c.args.parts.now) c.in-Err.is c.requires (log_in_order c.args.parts.now is)

pub returns-in-Ok : goal.returns-in-Ok
returns-in-Ok g c = λ is.
    let parts = c.args.parts.now in
    let wanted = c.in-Ok.wanted in
    let answer = subst (IsLogAnswer parts) c.in-Ok.is c.requires in
    if_ok c.matched.result (IsMatched wanted.0 parts) (IsTransacted parts) (matched_found parts is wanted.0 answer.1) c.matched.ensures
