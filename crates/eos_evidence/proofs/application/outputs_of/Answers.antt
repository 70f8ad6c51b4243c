use Rattle.eos_evidence.proofs.LegalApps.{outputs_more}
use Rattle.eos_evidence.proofs.application.outputs_of.Goals as goal

pub loop-app-preserved : goal.loop-app-preserved
loop-app-preserved c =
    outputs_more c.args.apps.now c.loop-app.app-index c.app-item.result _ _ _ c.loop-app-test.true c.app-item.is c.loop-app.invariant c.as_slice.ensures c.in_ok-push_topics.ensures
