use Rattle.eos_commits.proofs.PushedMore.{item_has}
use Rattle.eos_notes.specs.ReplacedNotes.{others_in}
use Rattle.eos_notes.proofs.PushedMore.{pushed_more}
use Rattle.eos_notes.proofs.replaced.push_others.Goals as goal

pub loop-app-preserved : goal.loop-app-preserved
loop-app-preserved c = λ order.
    pushed_more (others_in c.args.logs.parts.now c.args.logs.epochs.now) _ _ _ c.args.apps.now c.loop-app.app-index c.app-item.result c.loop-app-test.true c.app-item.is
    (c.loop-app.invariant order) (c.in_ok-push_app.ensures order)

pub push_app-requires : goal.push_app-requires
push_app-requires c =
    (c.args.apps.now, c.requires, item_has c.args.apps.now c.loop-app.app-index c.app-item.result c.loop-app-test.true c.app-item.is)
