-- The data batches of a log, each with how its transaction ended.
-- Source: Kafka's documentation, Message Format, "Record Batch" (baseOffset, attributes, producerId, producerEpoch);
-- KIP-98 for what an end marker does to the batches of its producer id before it.
use Rattle.std.specs.Prelude.{ℕ, ℤ, List, Option, Some, None, if◌then◌else◌}
use Rattle.eos_batch.specs.declared.batch.Batch.{Batch}
use Rattle.eos_batch.specs.declared.record.Record.{Record}
use Rattle.eos_batch.specs.declared.marker.Kind.TheVariants.{Commit, Abort}
use Rattle.eos_batch.specs.Attributes.{is_transactional}
use Rattle.eos_batch.specs.Offsets.{offset_of}
use Rattle.eos_fold.specs.declared.entry.Ending.{Ending}
use Rattle.eos_fold.specs.declared.entry.Ending.TheVariants.{Plain, Ended, Waiting}
use Rattle.eos_fold.specs.declared.item.Fate.{Fate}
use Rattle.eos_fold.specs.declared.item.Fate.TheVariants as fates

-- a data batch: its base offset, the producer id and epoch where it is transactional, and its records
pub record DataBatch : Type 0 where
  pub offset : ℕ
  pub writer : Option (ℤ × ℤ)
  pub ending : Ending
  pub records : List Record

-- what an ending means for the batch's records
abbrev pub fate_of : Ending → Fate
fate_of Plain = fates.Plain
fate_of (Ended epoch Commit) = fates.Committed
fate_of (Ended epoch Abort) = fates.Aborted
fate_of (Waiting producer) = fates.Waiting producer

-- ---- a batch as it is read, before any end marker

abbrev pub writer_of : Batch → Option (ℤ × ℤ)
writer_of b = if is_transactional b.attributes then Some (b.producer, b.epoch) else None

abbrev pub ending_of : Batch → Ending
ending_of b = if is_transactional b.attributes then Waiting b.producer else Plain

abbrev pub data_batch : Batch → DataBatch
data_batch b = record { offset = offset_of b; writer = writer_of b; ending = ending_of b; records = b.records }
