-- The batch that stands at a place; none where no batch reads there.
use Rattle.std.specs.Prelude.{ℕ, ℤ, List, [], ◌∷◌, length, drop, Option, Some, None, Result, Ok, Err, nat_lt, if◌then◌else◌}
use Rattle.std.specs.Ordering.{int_eq}
use Rattle.eos_batch.specs.Reading.{batch_at}
use Rattle.eos_batch.specs.declared.batch.Batch.{Batch}
use Rattle.eos_batch.specs.declared.fault.BatchFault.{BatchFault}
use Rattle.eos_evidence.specs.declared.partition.Partition.{Partition}
use Rattle.eos_evidence.specs.declared.segment.Segment.{Segment}
use Rattle.eos_sought.specs.declared.partition.Placed.{Placed}

abbrev pub batch_read : Result (Batch × ℕ) BatchFault → Option Batch
batch_read (Ok read) = Some read.0
batch_read (Err fault) = None

abbrev pub batch_in_bytes : List ℕ → ℕ → Option Batch
batch_in_bytes bytes byte = if nat_lt byte (length bytes) then batch_read (batch_at (drop byte bytes)) else None

-- the first segment of this name
abbrev pub segment_named : ℤ → List Segment → Option Segment
segment_named base [] = None
segment_named base (s ∷ ss) = if int_eq s.base base then Some s else segment_named base ss

abbrev pub batch_in_segment : Option Segment → ℕ → Option Batch
batch_in_segment None byte = None
batch_in_segment (Some s) byte = batch_in_bytes s.bytes byte

abbrev pub batch_in : Option Partition → Placed → Option Batch
batch_in None p = None
batch_in (Some partition) p = batch_in_segment (segment_named p.segment partition.segments) p.standing.byte
