use Rattle.std.proofs.Common.{◌++◌, ◌∙◌, List, ap, take_all}
use Rattle.eos_commits.specs.Commits.{Topic}
use Rattle.eos_evidence.specs.declared.application.App.{App}
use Rattle.eos_notes.specs.PartitionTallies.{sources_of}
use Rattle.eos_notes.proofs.PushedMore.{made_more}
use Rattle.eos_notes.proofs.partitions.sources_of.Goals as goal

pub loop-app-preserved : goal.loop-app-preserved
loop-app-preserved c =
    made_more (λ (app : App). app.sources) _ _ c.args.apps.now c.loop-app.app-index c.app-item.result c.loop-app-test.true c.app-item.is c.loop-app.invariant
    (c.in_ok-push_topics.ensures ∙ ap (λ (topics : List Topic). c.loop-app.topics.items ++ topics) c.as_slice.ensures)

pub returns : goal.returns
returns c = c.loop-app.invariant ∙ ap (λ (apps : List App). sources_of apps) (take_all c.loop-app.app-index c.args.apps.now c.loop-app-test.false)
