-- Which records of a transactional id are skipped: they say nothing new. A record of the two statuses that mean nothing
-- here is, and so is one that is equal in status, producer id, epoch and set of partitions to the last unskipped record of
-- its id (the coordinator writes a record again when its log is moved), and a tombstone after a tombstone.
use Rattle.std.specs.Prelude.{Bool, true, false, ◌&&◌, ◌||◌, Option, Some, None}
use Rattle.std.specs.Ordering.{int_eq}
use Rattle.eos_txnlog.specs.declared.status.Status.{Status}
use Rattle.eos_txnlog.specs.declared.status.Status.TheVariants.{Dead, PrepareEpochFence}
use Rattle.eos_txnlog.specs.declared.value.TxnValue.{TxnValue}
use Rattle.eos_txnlog.specs.Status.{same_status}
use Rattle.eos_txnlog.specs.PartitionSets.{is_same_set}

abbrev pub means_nothing : Status → Bool
means_nothing status = same_status (Some status) (Some Dead) || same_status (Some status) (Some PrepareEpochFence)

abbrev pub says_the_same : TxnValue → TxnValue → Bool
says_the_same before after =
    same_status (Some after.status) (Some before.status) && int_eq after.producer before.producer && int_eq after.epoch before.epoch
    && is_same_set before.partitions after.partitions

-- whether this record, a value or a tombstone, says nothing after the last unskipped record of its id, if there is one
abbrev pub is_skipped : Option (Option TxnValue) → Option TxnValue → Bool
is_skipped (Some (Some before)) (Some after) = means_nothing after.status || says_the_same before after
is_skipped (Some None) (Some after) = means_nothing after.status
is_skipped None (Some after) = means_nothing after.status
is_skipped (Some (Some before)) None = false
is_skipped (Some None) None = true
is_skipped None None = false
