-- The batches of a partition that are wanted, segment by segment.
use Rattle.std.specs.Prelude.{◌≡◌, List, [], ◌∷◌, ◌++◌, map, Option, Some, None, Bool, ◌&&◌, if◌then◌else◌}
use Rattle.std.specs.Ordering.{nat_cmp, int_eq, is_eq}
use Rattle.std.specs.Cmp.Lexicographic.{slice_cmp}
use Rattle.eos_base.specs.declared.partition_name.PartitionName.{PartitionName}
use Rattle.eos_evidence.specs.declared.ends.End.{End}
use Rattle.eos_evidence.specs.declared.partition.Partition.{Partition}
use Rattle.eos_evidence.specs.declared.segment.Segment.{Segment}
use Rattle.eos_sought.specs.declared.partition.Placed.{Placed}
use Rattle.eos_sought.specs.declared.wanted.Standing.{Standing}
use Rattle.eos_sought.specs.declared.wanted.Wanted.{Wanted}
use Rattle.eos_sought.specs.Places.{AreWantedIn}

abbrev pub placed_in : Segment → Standing → Placed
placed_in s standing = record { segment = s.base; standing = standing }

-- one segment after the other
abbrev pub ArePlacedIn : List Segment → Wanted → List Placed → Type 0
ArePlacedIn [] wanted all = all ≡ []
ArePlacedIn (s ∷ ss) wanted all = (here : List Standing) × (others : List Placed) × AreWantedIn s wanted here × ArePlacedIn ss wanted others × (all ≡ map (placed_in s) here ++ others)

abbrev pub names : PartitionName → End → Bool
names name end = is_eq (slice_cmp nat_cmp end.topic name.topic) && int_eq end.partition name.partition

abbrev pub is_named : PartitionName → Partition → Bool
is_named name p = names name p.end

-- the first of this name
abbrev pub partition_named : PartitionName → List Partition → Option Partition
partition_named name [] = None
partition_named name (p ∷ ps) = if is_named name p then Some p else partition_named name ps

abbrev pub AreOf : Option Partition → Wanted → List Placed → Type 0
AreOf None wanted all = all ≡ []
AreOf (Some p) wanted all = ArePlacedIn p.segments wanted all

-- of the partition of this name
abbrev pub AreBatchesOf : List Partition → PartitionName → Wanted → List Placed → Type 0
AreBatchesOf partitions name wanted all = AreOf (partition_named name partitions) wanted all
