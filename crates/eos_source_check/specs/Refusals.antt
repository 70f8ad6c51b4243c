-- Why the faults of a source's evidence aren't listed.
use Rattle.std.specs.Prelude.{◌≡◌, ◌≢◌, ◌⊎◌, ℕ, ◌<◌, Bool, true, false, List, length, take, Option, Some, slice_get, ⊤}
use Rattle.eos_disk.specs.declared.folder.FolderFault.{FolderFault}
use Rattle.eos_disk.specs.declared.folder.FolderFault.TheVariants as folder
use Rattle.eos_evidence.specs.declared.partition.Partition.{Partition}
use Rattle.eos_evidence.specs.Evidence.{segments_of}
use Rattle.eos_touch.specs.declared.fault.PartitionFault.{PartitionFault}
use Rattle.eos_faults.specs.PartitionLists.{AreFaultsOf}
use Rattle.eos_source.specs.FolderRefusals.{IsOfAny}
use Rattle.eos_source.specs.Refusals.{AreOpened, IsRefusal}
use Rattle.eos_source.specs.Said.{Known}
use Rattle.eos_source_check.specs.Again.{IsAgain}
use Rattle.eos_source_check.specs.declared.fault.Unlisted.{Unlisted}
use Rattle.eos_source_check.specs.declared.fault.Unlisted.TheVariants.{Refused, Fold, Changed, OutOfMemory}

-- no piece that is known to be a log is refused as a fold
abbrev pub IsNoLog : {F : Type 0} → (ℕ → Bool) → Unlisted F → Type 0
IsNoLog is_log (Refused fault) = ⊤
IsNoLog is_log (Fold piece) = is_log piece ≡ false
IsNoLog is_log (Changed piece) = ⊤
IsNoLog is_log OutOfMemory = ⊤

-- the partition of this shape, read again: of all its faults the first is another one, or there is none
pub record IsOther (known : ℕ → Known) (piece : ℕ) (shape : Partition) (fault : PartitionFault) : Type 0 where
  pub partition : Partition
  pub again : IsAgain known piece shape partition
  pub faults : List PartitionFault
  pub all : AreFaultsOf partition faults
  pub other : slice_get faults 0 ≢ Some fault

-- it is so with a partition whose first piece has this number, and in which this fault was found
pub record IsChanged (known : ℕ → Known) (shapes : List Partition) (found : List (Option PartitionFault)) (piece : ℕ) : Type 0 where
  pub place : ℕ
  pub shape : Partition
  pub there : slice_get shapes place ≡ Some shape
  pub first : piece ≡ length (segments_of (take place shapes))
  pub fault : PartitionFault
  pub was : slice_get found place ≡ Some (Some fault)
  pub is : IsOther known piece shape fault

-- a piece was refused, or is a fold; or a partition has changed
abbrev pub IsEarned : {F : Type 0} → (ℕ → Known) → (ℕ → Option F → Type 0) → List Partition → List (Option PartitionFault) → Unlisted F → Type 0
IsEarned known outcomes shapes found (Refused fault) = (piece : ℕ) × (piece < length (segments_of shapes)) × outcomes piece (Some fault)
IsEarned known outcomes shapes found (Fold piece) = piece < length (segments_of shapes)
IsEarned known outcomes shapes found (Changed piece) = IsChanged known shapes found piece
IsEarned known outcomes shapes found OutOfMemory = ⊤

-- the first of so many pieces that isn't read, or want of memory; or, where all faults are told and each was opened, one that is read again
abbrev pub IsUntold : {F : Type 0} → (ℕ → Option F → Type 0) → (F → Type 0) → ℕ → Bool → Unlisted F → Type 0
IsUntold outcomes IsMemory pieces all (Refused why) =
    IsRefusal outcomes IsMemory pieces why ⊎ ((all ≡ true) × AreOpened outcomes pieces × (piece : ℕ) × (piece < pieces) × outcomes piece (Some why))
IsUntold outcomes IsMemory pieces all (Fold piece) = (all ≡ true) × AreOpened outcomes pieces × (piece < pieces)
IsUntold outcomes IsMemory pieces all (Changed piece) = (all ≡ true) × AreOpened outcomes pieces
IsUntold outcomes IsMemory pieces all OutOfMemory = ⊤

-- a piece that was read again is refused for such a fault; or want of memory
abbrev pub IsRefusedFor : {F : Type 0} → (F → Type 0) → Unlisted F → Type 0
IsRefusedFor Is (Refused fault) = Is fault
IsRefusedFor Is (Fold piece) = ⊥
IsRefusedFor Is (Changed piece) = ⊥
IsRefusedFor Is OutOfMemory = ⊤

-- one of so many pieces
abbrev pub IsRefusedAgain : {F : Type 0} → (ℕ → Option F → Type 0) → ℕ → Unlisted F → Type 0
IsRefusedAgain outcomes pieces = IsRefusedFor (λ fault. (piece : ℕ) × (piece < pieces) × outcomes piece (Some fault))

-- one of so many pieces is refused, or is a fold, when it is read again
abbrev pub IsUnread : {F : Type 0} → (ℕ → Option F → Type 0) → ℕ → Unlisted F → Type 0
IsUnread outcomes pieces (Refused fault) = (piece : ℕ) × (piece < pieces) × outcomes piece (Some fault)
IsUnread outcomes pieces (Fold piece) = piece < pieces
IsUnread outcomes pieces (Changed piece) = ⊥
IsUnread outcomes pieces OutOfMemory = ⊤

-- the refusal of a folder for this one of its pieces
abbrev pub IsRefusalFor : (ℕ → Option FolderFault → Type 0) → ℕ → Unlisted FolderFault → FolderFault → Type 0
IsRefusalFor outcomes pieces (Refused why) fault = fault ≡ why
IsRefusalFor outcomes pieces (Fold piece) fault = outcomes piece (Some fault)
IsRefusalFor outcomes pieces (Changed piece) fault = IsOfAny outcomes pieces fault
IsRefusalFor outcomes pieces OutOfMemory fault = fault ≡ folder.OutOfMemory
