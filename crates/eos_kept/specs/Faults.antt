-- The least faults of partitions, each named beside its log, since a kept log has no segments of which it could be said.
use Rattle.std.specs.Prelude.{List, [], ◌∷◌, Option, Some, None, ⊤}
use Rattle.eos_evidence.specs.declared.partition.Partition.{Partition}
use Rattle.eos_touch.specs.declared.fault.PartitionFault.{PartitionFault}
use Rattle.eos_fold.specs.LeastFaults.{IsFaultIn}

-- the least fault of each of these partitions, in order
abbrev pub AreFaultsIn : List Partition → List (Option PartitionFault) → Type 0
AreFaultsIn [] [] = ⊤
AreFaultsIn [] (f ∷ fs) = ⊥
AreFaultsIn (p ∷ ps) [] = ⊥
AreFaultsIn (p ∷ ps) (f ∷ fs) = IsFaultIn p.end.topic p.end.partition p.end.end p.segments f × AreFaultsIn ps fs

-- the first that there is
abbrev pub first_of : List (Option PartitionFault) → Option PartitionFault
first_of [] = None
first_of (None ∷ fs) = first_of fs
first_of (Some f ∷ fs) = Some f
