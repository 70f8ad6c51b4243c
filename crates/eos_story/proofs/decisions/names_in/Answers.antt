use Rattle.std.proofs.Common.{ap, ◌++◌, ◌∙◌}
use Rattle.eos_story.specs.Listings.{names_of}
use Rattle.eos_story.proofs.ListsLeft.{flat_next}
use Rattle.eos_story.proofs.decisions.names_in.Goals as goal

pub loop-topic-preserved : goal.loop-topic-preserved
loop-topic-preserved c =
    let names = c.loop-topic.names.items in
    flat_next names_of _ c.loop-topic.topic-index c.topic-item.result names c.push_topic.new.names.items _ c.loop-topic-test.true (c.in_ok-push_topic.ensures ∙ ap (λ t. names ++ names_of t) c.topic-item.is) c.loop-topic.invariant
