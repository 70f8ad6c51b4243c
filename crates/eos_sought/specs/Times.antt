-- When a record was written, in milliseconds since 1970-01-01T00:00Z, as its batch has it: the producer's time, a delta from the batch's
-- base; or the broker's, where the batch says so, which is one time for all its records.
-- Source: Kafka's documentation, Message Format, "Record Batch" (baseTimestamp, maxTimestamp; attributes, bit 3, timestampType: set for
-- the time of the append) and "Record" (timestampDelta). Java adds in 64 bits, and goes on from the other end past the last.
use Rattle.std.specs.Prelude.{ℕ, ℤ, pos, ◌-◌, List, length, drop, Option, Some, None, Result, Ok, Err, nat_lt, slice_get, if◌then◌else◌}
use Rattle.std.specs.Int.{w64, int_wrapping_add}
use Rattle.eos_batch.specs.Attributes.{has_some_of}
use Rattle.eos_batch.specs.Reading.{batch_at}
use Rattle.eos_batch.specs.declared.batch.Batch.{Batch}
use Rattle.eos_batch.specs.declared.fault.BatchFault.{BatchFault}
use Rattle.eos_batch.specs.declared.record.Record.{Record}
use Rattle.eos_evidence.specs.declared.partition.Partition.{Partition}
use Rattle.eos_sought.specs.declared.partition.Placed.{Placed}
use Rattle.eos_sought.specs.Batches.{batch_in}

abbrev pub record_time : Batch → Record → ℤ
record_time b r = if has_some_of (pos 0x08) b.attributes then b.max_timestamp else int_wrapping_add w64 b.base_timestamp r.timestamp_delta

abbrev pub time_of_one : Batch → Option Record → Option ℤ
time_of_one b None = None
time_of_one b (Some r) = Some (record_time b r)

-- of the record of this number in the batch that is read, if one is
abbrev pub time_read : ℕ → Result (Batch × ℕ) BatchFault → Option ℤ
time_read i (Ok read) = time_of_one read.0 (slice_get read.0.records i)
time_read i (Err fault) = None

abbrev pub time_in_bytes : List ℕ → ℕ → ℕ → Option ℤ
time_in_bytes bytes byte i = if nat_lt byte (length bytes) then time_read i (batch_at (drop byte bytes)) else None

-- of the record of this number in a batch, where there is one
abbrev pub time_in_batch : Option Batch → ℕ → Option ℤ
time_in_batch None i = None
time_in_batch (Some b) i = time_of_one b (slice_get b.records i)

-- of the record of this offset, in the batch that stands there in this partition
abbrev pub time_in : Option Partition → Placed → ℕ → Option ℤ
time_in partition p offset = time_in_batch (batch_in partition p) (offset - p.standing.head.offset)
