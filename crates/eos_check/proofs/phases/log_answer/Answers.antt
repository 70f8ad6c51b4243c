use Rattle.std.proofs.Common.{◌≡◌, ◌∙◌}
use Rattle.eos_base.specs.Least.{NoneStands}
use Rattle.eos_table.specs.TransactionLog.{transaction_parts, decisions_of}
use Rattle.eos_check.specs.Verdicts.{StandsInLog}
use Rattle.eos_check.proofs.PhaseAnswers.{match_ok}
use Rattle.eos_check.proofs.phases.log_answer.Goals as goal

pub returns-in_ok-of-in-Ok : goal.returns-in_ok-of-in-Ok
returns-in_ok-of-in-Ok c = (
  c.in_ok-of-in-Ok.ensures.lists,
  λ order.
      let parts = c.args.parts.now in
      let read : NoneStands (StandsInLog parts) × (c.in-Ok.decisions.items ≡ decisions_of (transaction_parts parts)) = match_ok _ _ c.in_ok-fault.field-0 c.in-Ok.decisions c.in-Ok.is (c.in_ok-fault.ensures order) in
      (read.0, c.in_ok-of-in-Ok.ensures.decisions ∙ read.1),
)
