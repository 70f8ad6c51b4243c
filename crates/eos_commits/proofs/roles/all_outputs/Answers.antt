use Rattle.std.proofs.Common.{◌++◌, ◌∙◌, ap, map}
use Rattle.eos_evidence.specs.declared.application.App.{App}
use Rattle.eos_commits.specs.steps.Roles.{plain_topic}
use Rattle.eos_commits.proofs.PushedMore.{pushed_more}
use Rattle.eos_commits.proofs.roles.all_outputs.Goals as goal

pub loop-app-preserved : goal.loop-app-preserved
loop-app-preserved c =
    let before = map plain_topic c.loop-app.all.items in
    pushed_more (λ (app : App). app.outputs) before (map plain_topic c.push_topics.new.all.items)
    c.args.apps.now c.loop-app.app-index c.app-item.result c.loop-app-test.true c.app-item.is c.loop-app.invariant (c.in_ok-push_topics.ensures ∙ ap (λ topics. before ++ topics) c.as_slice.ensures)
