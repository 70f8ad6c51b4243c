-- Partitions of one name in two lists.
use Rattle.std.specs.Prelude.{◌≡◌, ⊤, List, Option, Some, None}
use Rattle.eos_base.specs.declared.partition_name.PartitionName.{PartitionName}
use Rattle.eos_evidence.specs.declared.partition.Partition.{Partition}
use Rattle.eos_sought.specs.Partitions.{partition_named}

-- of this name, if there is one, the same partition is in both, or in neither
abbrev pub IsSameOf : Option PartitionName → List Partition → List Partition → Type 0
IsSameOf None ps qs = ⊤
IsSameOf (Some name) ps qs = partition_named name ps ≡ partition_named name qs
