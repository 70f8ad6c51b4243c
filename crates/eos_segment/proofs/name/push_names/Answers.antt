use Rattle.std.proofs.Common.{◌≡◌, ◌+◌, ◌∷◌, List, drop, ap, sym, ◌∙◌}
use Rattle.std.proofs.lemmas.List.{at_drop_more}
use Rattle.eos_txnlog.specs.declared.partitions.TopicPartitions.{TopicPartitions}
use Rattle.eos_segment.proofs.NameRuns.{one_topic_more}
use Rattle.eos_segment.proofs.name.push_names.Goals as goal

pub loop-topic-preserved : goal.loop-topic-preserved
loop-topic-preserved c =
    let ts = c.args.partitions.now in
    let i = c.loop-topic.topic-index in
    let t = c.topic-item.result in
    let step : drop i ts ≡ t ∷ drop (i + 1) ts =
    at_drop_more (λ (ts : List TopicPartitions). ts) ts i t c.loop-topic-test.true ∙ ap (λ (t : TopicPartitions). t ∷ drop (i + 1) ts) (sym c.topic-item.is) in
    one_topic_more _ _ _ _ _ t (drop i ts) (drop (i + 1) ts) step c.loop-topic.invariant c.in_ok-push_topic.ensures c.stays_first-is_first.ensures
