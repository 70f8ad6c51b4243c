-- What a walk learns of a batch beside its records.
-- Source: Kafka's documentation, Message Format, "Record Batch" and "Control Batches".
use Rattle.std.specs.Prelude.{ℕ, length, Option}
use Rattle.eos_batch.specs.declared.batch.Batch.{Batch}
use Rattle.eos_batch.specs.declared.marker.Marker.{Marker}
use Rattle.eos_batch.specs.Attributes.{is_transactional, is_control}
use Rattle.eos_batch.specs.Marker.{marker_of}
use Rattle.eos_batch.specs.Offsets.{offset_of}
use Rattle.eos_batch.specs.declared.head.BatchHead.{BatchHead}

-- of so many records and so many bytes
abbrev pub head_with : Batch → ℕ → ℕ → Option Marker → BatchHead
head_with b count size marker = record {
  offset = offset_of b;
  count = count;
  size = size;
  producer = b.producer;
  epoch = b.epoch;
  sequence = b.sequence;
  is_control = is_control b.attributes;
  is_transactional = is_transactional b.attributes;
  marker = marker;
}

-- of a batch that takes so many bytes
abbrev pub head_of : Batch → ℕ → BatchHead
head_of b size = head_with b (length b.records) size (marker_of b)
