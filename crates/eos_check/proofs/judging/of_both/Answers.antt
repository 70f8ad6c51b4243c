use Rattle.std.proofs.Common.{subst}
use Rattle.std.specs.Prelude.{IfOk}
use Rattle.eos_lineage.specs.Faults.{IsAnswer}
use Rattle.eos_check.proofs.PhaseAnswers.{refused, answered}
use Rattle.eos_check.proofs.judging.of_both.Goals as goal

pub returns-in-Err : goal.returns-in-Err
returns-in-Err c = refused c.args.sound.spec.now.apps c.args.sound.parts.now c.args.transacted c.requires.transactions c.in-Err.least c.in-Err.is

pub returns-in_ok-lineage-in-Ok : goal.returns-in_ok-lineage-in-Ok
returns-in_ok-lineage-in-Ok c =
    let apps = c.args.sound.spec.now.apps in
    let parts = c.args.sound.parts.now in
    answered apps parts c.args.transacted c.requires.transactions c.in-Ok.transactions c.in-Ok.is c.in_ok-lineage-in-Ok.field-0
    (λ at. subst (λ r. IfOk r (IsAnswer apps parts)) c.in_ok-lineage-in-Ok.was (c.requires.lineage at)) c.of_lineage.result (c.of_lineage.ensures apps parts)
