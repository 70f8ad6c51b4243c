-- The batches at some places of a partition that was read again.
use Rattle.std.specs.Prelude.{◌≡◌, ⊤, ℕ, List, map, Option, Some, None}
use Rattle.eos_base.specs.declared.partition_name.PartitionName.{PartitionName}
use Rattle.eos_batch.specs.declared.batch.Batch.{Batch}
use Rattle.eos_evidence.specs.declared.partition.Partition.{Partition}
use Rattle.eos_evidence.specs.declared.segment.Segment.{Segment}
use Rattle.eos_sought.specs.Batches.{segment_named, batch_in, batch_in_bytes}
use Rattle.eos_sought.specs.declared.partition.Placed.{Placed}
use Rattle.eos_source.specs.Said.{Known}
use Rattle.eos_source_check.specs.Again.{IsNamedAgain}
use Rattle.eos_source_check.specs.declared.picks.Picked.{Picked}

abbrev pub found_of : Option Segment → ℕ → Option (Option Batch)
found_of None byte = None
found_of (Some s) byte = Some (batch_in_bytes s.bytes byte)

-- nothing is found where no segment has the name
abbrev pub found_in : List Segment → Option Placed → Option (Option Batch)
found_in segments None = None
found_in segments (Some p) = found_of (segment_named p.segment segments) p.standing.byte

abbrev pub batch_at : Partition → Option Placed → Option Batch
batch_at p None = None
batch_at p (Some placed) = batch_in (Some p) placed

abbrev pub ArePickedOf : Partition → List (Option Placed) → Picked → Type 0
ArePickedOf p places picked = picked.found.items ≡ map (found_in p.segments) places

-- they are those of this partition, or there is none
abbrev pub ArePickedOfRead : Option Partition → List (Option Placed) → Option Picked → Type 0
ArePickedOfRead None places None = ⊤
ArePickedOfRead None places (Some picked) = ⊥
ArePickedOfRead (Some p) places None = ⊥
ArePickedOfRead (Some p) places (Some picked) = ArePickedOf p places picked

-- the first partition of this name was read again, and these batches stand there
pub record ArePickedNamed (known : ℕ → Known) (shapes : List Partition) (name : PartitionName) (places : List (Option Placed)) (picked : Option Picked) : Type 0 where
  pub read : Option Partition
  pub again : IsNamedAgain known 0 shapes name read
  pub are : ArePickedOfRead read places picked
