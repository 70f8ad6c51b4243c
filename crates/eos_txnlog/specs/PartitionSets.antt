-- The partitions of a transaction as a set of names: order and repetition don't matter, and a topic with an empty list of
-- numbers adds nothing (Kafka's coordinator keeps them as a set; the schema `TransactionLogValue` lists them by topic).
use Rattle.std.specs.Prelude.{◌↔◌, ℕ, ℤ, Bool, ◌&&◌, List, map, flat_map}
use Rattle.std.specs.List.{list_all}
use Rattle.eos_base.specs.Members.{Has, is_found}
use Rattle.eos_base.specs.PartitionNames.{name_cmp}
use Rattle.eos_base.specs.declared.partition_name.PartitionName.{PartitionName}
use Rattle.eos_txnlog.specs.declared.partitions.TopicPartitions.{TopicPartitions}

abbrev pub name_of : List ℕ → ℤ → PartitionName
name_of topic number = record { topic = topic; partition = number }

abbrev pub names_in_topic : TopicPartitions → List PartitionName
names_in_topic t = map (name_of t.topic) t.numbers

abbrev pub names_of : List TopicPartitions → List PartitionName
names_of partitions = flat_map names_in_topic partitions

abbrev pub Lists : List TopicPartitions → List ℕ → ℤ → Type 0
Lists partitions topic number = Has (names_of partitions) (name_of topic number)

abbrev pub IsSameSet : List TopicPartitions → List TopicPartitions → Type 0
IsSameSet xs ys = (topic : List ℕ) (number : ℤ) → Lists xs topic number ↔ Lists ys topic number

-- ---- the same, as tests

abbrev pub lists : List TopicPartitions → List ℕ → ℤ → Bool
lists partitions topic number = is_found name_cmp (names_of partitions) (name_of topic number)

-- each of these names is among those
abbrev pub are_within : List PartitionName → List PartitionName → Bool
are_within few many = list_all (is_found name_cmp many) few

abbrev pub is_same_set : List TopicPartitions → List TopicPartitions → Bool
is_same_set xs ys = are_within (names_of xs) (names_of ys) && are_within (names_of ys) (names_of xs)
