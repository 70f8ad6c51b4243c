-- The partitions of a transaction that a record of the transaction log lists.
-- Source: KIP-98, "Transaction Log"; KIP-890 (a transaction's data has the epoch before that of its end markers).
use Rattle.std.specs.Prelude.{ℤ, pos, negsuc, ◌+ℤ◌, ◌-ℤ◌, int_lt, List, [], map, flat_map, Option, Some, None, Bool, ◌&&◌, if◌then◌else◌}
use Rattle.std.specs.Ordering.{int_eq}
use Rattle.eos_base.specs.declared.partition_name.PartitionName.{PartitionName}
use Rattle.eos_commits.specs.Commits.{is_same}
use Rattle.eos_sought.specs.declared.finding.Find.{Find}
use Rattle.eos_sought.specs.States.{state_in}
use Rattle.eos_txnlog.specs.declared.partitions.TopicPartitions.{TopicPartitions}
use Rattle.eos_txnlog.specs.declared.value.TxnValue.{TxnValue}

abbrev pub names_of : TopicPartitions → List PartitionName
names_of t = map (λ (n : ℤ). record { topic = t.topic; partition = n }) t.numbers

abbrev pub names_in : Option TxnValue → List PartitionName
names_in None = []
names_in (Some state) = flat_map names_of state.partitions

abbrev pub listed_by : Option Find → List PartitionName
listed_by None = []
listed_by (Some find) = names_in (state_in find.item.value)

abbrev pub is_same_name : PartitionName → PartitionName → Bool
is_same_name a b = is_same a.topic b.topic && int_eq a.partition b.partition

-- the epoch of the markers behind data of this epoch, and that of the data before such markers; the greatest and the least have none
abbrev pub epoch_after : ℤ → ℤ
epoch_after e = if int_lt e (pos 32767) then e +ℤ pos 1 else e

abbrev pub epoch_before : ℤ → ℤ
epoch_before e = if int_lt (negsuc 32767) e then e -ℤ pos 1 else e
