-- The faults of partitions that are read again, of one after the other.
use Rattle.std.specs.Prelude.{◌≡◌, ◌≤◌, ◌^◌, ℕ, ◌+◌, List, [], ◌∷◌, ◌++◌, length, Option, None, Some, slice_get, ⊤}
use Rattle.eos_evidence.specs.declared.partition.Partition.{Partition}
use Rattle.eos_touch.specs.declared.fault.PartitionFault.{PartitionFault}
use Rattle.eos_faults.specs.PartitionLists.{AreFaultsOf}
use Rattle.eos_source.specs.Said.{Log, Known, IsAsKnown}
use Rattle.eos_source_check.specs.Again.{IsAgain}

-- the bytes of a log of which so much is known
pub record IsLogOf (known : Known) (bytes : List ℕ) : Type 0 where
  pub as_known : IsAsKnown known (Log bytes)
  pub size : length bytes ≤ 2 ^ 30

-- all faults of a partition of this shape, as it was read again
pub record HasFaultsAgain (known : ℕ → Known) (piece : ℕ) (shape : Partition) (list : List PartitionFault) : Type 0 where
  pub partition : Partition
  pub again : IsAgain known piece shape partition
  pub faults : AreFaultsOf partition list

-- of one in which this was found, or nothing
abbrev pub HasFaultsIfFound : (ℕ → Known) → ℕ → Partition → Option (Option PartitionFault) → List PartitionFault → Type 0
HasFaultsIfFound known piece shape None list = list ≡ []
HasFaultsIfFound known piece shape (Some None) list = list ≡ []
HasFaultsIfFound known piece shape (Some (Some f)) list = HasFaultsAgain known piece shape list

-- what was found comes first
abbrev pub BeginsIfFound : Option (Option PartitionFault) → List PartitionFault → Type 0
BeginsIfFound None list = ⊤
BeginsIfFound (Some None) list = ⊤
BeginsIfFound (Some (Some f)) list = slice_get list 0 ≡ Some f

-- Of partitions of these shapes those in which a fault was found were read again, and these are all of their faults. One of which
-- nothing was found has none.
abbrev pub AreFaultsAgain : (ℕ → Known) → ℕ → List Partition → List (Option PartitionFault) → List (Option Partition) → List PartitionFault → Type 0
AreFaultsAgain known piece [] found [] list = list ≡ []
AreFaultsAgain known piece [] found (one ∷ more) list = ⊥
AreFaultsAgain known piece (shape ∷ shapes) found [] list = ⊥
AreFaultsAgain known piece (shape ∷ shapes) [] (None ∷ more) list = AreFaultsAgain known (piece + length shape.segments) shapes [] more list
AreFaultsAgain known piece (shape ∷ shapes) [] (Some p ∷ more) list = ⊥
AreFaultsAgain known piece (shape ∷ shapes) (None ∷ found) (None ∷ more) list = AreFaultsAgain known (piece + length shape.segments) shapes found more list
AreFaultsAgain known piece (shape ∷ shapes) (None ∷ found) (Some p ∷ more) list = ⊥
AreFaultsAgain known piece (shape ∷ shapes) (Some f ∷ found) (None ∷ more) list = ⊥
AreFaultsAgain known piece (shape ∷ shapes) (Some f ∷ found) (Some p ∷ more) list =
    (here others : List PartitionFault) × (list ≡ here ++ others) × IsAgain known piece shape p × AreFaultsOf p here
    × AreFaultsAgain known (piece + length shape.segments) shapes found more others

pub record AreListedAgain (known : ℕ → Known) (shapes : List Partition) (found : List (Option PartitionFault)) (list : List PartitionFault) : Type 0 where
  pub again : List (Option Partition)
  pub faults : AreFaultsAgain known 0 shapes found again list
