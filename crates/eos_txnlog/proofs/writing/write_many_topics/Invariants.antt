use Rattle.std.proofs.Common.{◌≡◌, ℕ, ◌<◌, ◌++◌, take, get_or, flat_map}
use Rattle.eos_txnlog.specs.declared.partitions.TopicPartitions.{TopicPartitions}
use Rattle.eos_txnlog.specs.steps.Text.{FitNumbers}
use Rattle.eos_txnlog.specs.Writing.{topic_text}
use Rattle.eos_txnlog.proofs.writing.write_many_topics.Given as goal

abbrev pub invariant-loop-topic : goal.invariant-loop-topic
invariant-loop-topic l = record {
  text : l.out.items ≡ l.fn.out.items ++ flat_map (topic_text l.form) (take l.topic-index l.topics);
  fit : (k : ℕ) (d : TopicPartitions) → k < l.topic-index → FitNumbers (get_or l.topics k d);
}
