-- Which partitions the transaction log lists (KIP-98, "Transaction Log"): those of the value of each record, whatever its
-- state, under a key that is a transactional id's.
use Rattle.std.specs.Prelude.{◌≡◌, ℕ, List, [], flat_map, Option, None, Some, Result, Ok, Err, if◌then◌else◌}
use Rattle.eos_base.specs.declared.partition_name.PartitionName.{PartitionName}
use Rattle.eos_base.specs.declared.record_fault.RecordFault.{RecordFault}
use Rattle.eos_batch.specs.declared.batch.Batch.{Batch}
use Rattle.eos_batch.specs.declared.record.Record.{Record}
use Rattle.eos_batch.specs.declared.fault.BatchFault.{BatchFault}
use Rattle.eos_batch.specs.Attributes.{is_control}
use Rattle.eos_batch.specs.Segment.{IsSegmentText}
use Rattle.eos_txnlog.specs.declared.value.TxnValue.{TxnValue}
use Rattle.eos_txnlog.specs.PartitionSets.{names_of}
use Rattle.eos_txnlog.specs.Reading.{read_key, read_value}

-- the partitions of a value that reads
abbrev pub names_said : Result TxnValue RecordFault → List PartitionName
names_said (Ok value) = names_of value.partitions
names_said (Err fault) = []

abbrev pub names_under : Result (Option (List ℕ)) RecordFault → List ℕ → List PartitionName
names_under (Ok (Some id)) value = names_said (read_value value)
names_under (Ok None) value = []
names_under (Err fault) value = []

abbrev pub names_at : Option (List ℕ) → Option (List ℕ) → List PartitionName
names_at (Some key) (Some value) = names_under (read_key key) value
names_at (Some key) None = []
names_at None value = []

abbrev pub names_in_record : Record → List PartitionName
names_in_record r = names_at r.key r.value

-- control batches say nothing of partitions
abbrev pub names_in_batch : Batch → List PartitionName
names_in_batch b = if is_control b.attributes then [] else flat_map names_in_record b.records

-- all that the batches of a segment list, up to its end or its first fault
pub record IsListing (bytes : List ℕ) (names : List PartitionName) : Type 0 where
  pub batches : List Batch
  pub stop : Option (ℕ × BatchFault)
  pub text : IsSegmentText bytes batches stop
  pub names_are : names ≡ flat_map names_in_batch batches
