-- The headers of a record, as the bytes of the batch that holds it have them.
use Rattle.std.specs.Prelude.{ℕ, ◌-◌, List, [], Option, Some, None, slice_get}
use Rattle.eos_base.specs.declared.partition_name.PartitionName.{PartitionName}
use Rattle.eos_batch.specs.declared.batch.Batch.{Batch}
use Rattle.eos_batch.specs.declared.record.Header.{Header}
use Rattle.eos_batch.specs.declared.record.Record.{Record}
use Rattle.eos_evidence.specs.declared.partition.Partition.{Partition}
use Rattle.eos_sought.specs.Partitions.{partition_named}
use Rattle.eos_sought.specs.Batches.{batch_in}
use Rattle.eos_sought.specs.declared.partition.Placed.{Placed}

abbrev pub headers_of : Option Record → List Header
headers_of None = []
headers_of (Some r) = r.headers

-- of the record of this number
abbrev pub headers_in : Option Batch → ℕ → List Header
headers_in None i = []
headers_in (Some b) i = headers_of (slice_get b.records i)

-- of the record of this offset, in the batch that stands there; where no such record reads, there is none
abbrev pub headers_at : List Partition → PartitionName → ℕ → Option Placed → List Header
headers_at ps name offset None = []
headers_at ps name offset (Some p) = headers_in (batch_in (partition_named name ps) p) (offset - p.standing.head.offset)
