-- Why a partition's faults aren't listed again, by the numbers of its pieces.
use Rattle.std.specs.Prelude.{◌≡◌, ℕ, ◌+◌, ◌≤◌, ◌<◌, length, Option, Some, ⊤}
use Rattle.eos_evidence.specs.declared.partition.Partition.{Partition}
use Rattle.eos_touch.specs.declared.fault.PartitionFault.{PartitionFault}
use Rattle.eos_source.specs.Said.{Known}
use Rattle.eos_source_check.specs.declared.fault.Unlisted.{Unlisted}
use Rattle.eos_source_check.specs.declared.fault.Unlisted.TheVariants.{Refused, Fold, Changed, OutOfMemory}
use Rattle.eos_source_check.specs.Refusals.{IsOther, IsRefusedFor}

-- this piece was refused, or is a fold; nothing has changed
abbrev pub IsOfPiece : {F : Type 0} → (ℕ → Option F → Type 0) → ℕ → Unlisted F → Type 0
IsOfPiece outcomes piece (Refused fault) = outcomes piece (Some fault)
IsOfPiece outcomes piece (Fold other) = other ≡ piece
IsOfPiece outcomes piece (Changed first) = ⊥
IsOfPiece outcomes piece OutOfMemory = ⊤

-- one of so many pieces from this number on was refused, or is a fold
abbrev pub IsOfPieces : {F : Type 0} → (ℕ → Option F → Type 0) → ℕ → ℕ → Unlisted F → Type 0
IsOfPieces outcomes first count (Refused fault) = (piece : ℕ) × (first ≤ piece) × (piece < first + count) × outcomes piece (Some fault)
IsOfPieces outcomes first count (Fold piece) = (first ≤ piece) × (piece < first + count)
IsOfPieces outcomes first count (Changed piece) = ⊥
IsOfPieces outcomes first count OutOfMemory = ⊤

-- or the partition of this shape has, read again, another first fault than this
abbrev pub IsOfPartition : {F : Type 0} → (ℕ → Known) → (ℕ → Option F → Type 0) → ℕ → Partition → Option (Option PartitionFault) → Unlisted F → Type 0
IsOfPartition known outcomes first shape found (Refused fault) = (piece : ℕ) × (first ≤ piece) × (piece < first + length shape.segments) × outcomes piece (Some fault)
IsOfPartition known outcomes first shape found (Fold piece) = (first ≤ piece) × (piece < first + length shape.segments)
IsOfPartition known outcomes first shape found (Changed piece) = (piece ≡ first) × (fault : PartitionFault) × (found ≡ Some (Some fault)) × IsOther known first shape fault
IsOfPartition known outcomes first shape found OutOfMemory = ⊤

-- one of so many pieces from this number on, which is read again, is refused
abbrev pub IsRefusedAmong : {F : Type 0} → (ℕ → Option F → Type 0) → ℕ → ℕ → Unlisted F → Type 0
IsRefusedAmong outcomes first count = IsRefusedFor (λ fault. (piece : ℕ) × (first ≤ piece) × (piece < first + count) × outcomes piece (Some fault))
