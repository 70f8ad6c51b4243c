-- The faults of partitions, of one after the other.
use Rattle.std.specs.Prelude.{◌≡◌, List, [], ◌∷◌, ◌++◌}
use Rattle.eos_evidence.specs.declared.partition.Partition.{Partition}
use Rattle.eos_touch.specs.declared.fault.PartitionFault.{PartitionFault}
use Rattle.eos_faults.specs.PartitionLists.{AreFaultsOf}

abbrev pub AreFaultsIn : List Partition → List PartitionFault → Type 0
AreFaultsIn [] list = list ≡ []
AreFaultsIn (p ∷ ps) list = (here others : List PartitionFault) × AreFaultsOf p here × (list ≡ here ++ others) × AreFaultsIn ps others
