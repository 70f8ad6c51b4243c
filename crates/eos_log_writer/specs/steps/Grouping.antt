-- A list of partitions by topic, from its front.
use Rattle.std.specs.Prelude.{ℕ, List, [], ◌∷◌, Bool, false}
use Rattle.eos_txnlog.specs.declared.partitions.TopicPartitions.{TopicPartitions}
use Rattle.eos_machine.specs.LogIndexes.{is_topic}

-- the first topic of the list is this one
abbrev pub starts_with : List ℕ → List TopicPartitions → Bool
starts_with topic [] = false
starts_with topic (g ∷ gs) = is_topic topic g.topic
