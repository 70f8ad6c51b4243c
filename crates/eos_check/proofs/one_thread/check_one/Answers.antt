use Rattle.std.proofs.Common.{subst}
use Rattle.eos_evidence.specs.SpecFields.{SpecFields}
use Rattle.eos_kept.specs.Faults.{first_of}
use Rattle.eos_check.specs.Judged.{IsJudged}
use Rattle.eos_check.specs.Verdicts.{IsVerdict}
use Rattle.eos_check.proofs.HeldLogs.{judged}
use Rattle.eos_check.proofs.PhaseAnswers.{if_ok}
use Rattle.eos_check.proofs.one_thread.check_one.Goals as goal

pub returns : goal.returns
returns g c =
    let e = c.args.evidence.now in
    let logs = c.in_ok-logs.logs in
    if_ok c.judge.result (IsJudged c.spec.result.now.apps logs.parts.items (first_of logs.faults.items)) (IsVerdict e)
    (λ v h. judged e logs.parts.items logs.faults.items c.in_ok-logs.ensures c.spec.ensures.evidence v
    (subst (λ (s : SpecFields). IsJudged s.apps logs.parts.items (first_of logs.faults.items) v) c.spec.ensures.value h)) c.judge.ensures
