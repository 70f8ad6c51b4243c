-- Which faults stand in a segment that is taken as a whole partition, and which of them is the least. A fault stands
-- where the front ends, or at a batch of the front after the batches before it; so each stands after a beginning of it.
-- Sources: KIP-98 and KIP-890 for the pairs of touches; the end of the front is this project's own profile.
use Rattle.std.specs.Prelude.{◌≡◌, ◌≢◌, ℕ, ◌+◌, ◌<◌, ◌≤◌, ◌⊎◌, pos, true, List, [], ◌∷◌, ◌++◌, length, Some, Err}
use Rattle.eos_batch.specs.declared.batch.Batch.{Batch}
use Rattle.eos_batch.specs.Reading.{batch_at}
use Rattle.eos_touch.specs.declared.touch.Touch.{Touch}
use Rattle.eos_touch.specs.Pair.{stands}
use Rattle.eos_touch.specs.declared.fault.PartitionFault.{PartitionFault}
use Rattle.eos_touch.specs.declared.fault.PartitionFaultKind.{PartitionFaultKind}
use Rattle.eos_touch.specs.declared.fault.PartitionFaultKind.TheVariants.{BadBatch, Gap, Pair, End, OpenAtEnd}
use Rattle.eos_touch.specs.FaultNames.{number_of}
use Rattle.eos_touch.specs.Touches.{touch_of}
use Rattle.eos_touch.specs.Touches.{last_touch}
use Rattle.eos_batch.specs.Offsets.{offset_of}
use Rattle.eos_touch.specs.Front.{begin_of, next_offset, IsContinuous, IsBeginning, IsNext}

-- the bytes after these batches are no batch
abbrev pub StandsAtBytes : List ℕ → List Batch → List ℕ → ℕ → PartitionFaultKind → Type 0
StandsAtBytes bytes before rest offset (BadBatch segment byte fault) =
    (rest ≢ []) × (batch_at rest ≡ Err fault) × (segment ≡ begin_of before) × (byte + length rest ≡ length bytes) × (offset ≡ next_offset before)
StandsAtBytes bytes before rest offset (Gap found) = ⊥
StandsAtBytes bytes before rest offset (Pair fault producer) = ⊥
StandsAtBytes bytes before rest offset (End end) = ⊥
StandsAtBytes bytes before rest offset (OpenAtEnd producer) = ⊥

-- the batch after these has another base offset, or it may not follow the touch of its producer id before it
abbrev pub StandsAtBatch : List Batch → Batch → ℕ → PartitionFaultKind → Type 0
StandsAtBatch before b offset (BadBatch segment byte fault) = ⊥
StandsAtBatch before b offset (Gap found) = (IsContinuous (before ++ b ∷ []) → ⊥) × (offset ≡ next_offset before) × (found ≡ offset_of b)
StandsAtBatch before b offset (Pair fault producer) =
    IsContinuous (before ++ b ∷ []) × (offset ≡ offset_of b)
    × (next : Touch) × (touch_of b ≡ Some (producer, next)) × (stands true (last_touch producer before) next fault ≡ true)
StandsAtBatch before b offset (End end) = ⊥
StandsAtBatch before b offset (OpenAtEnd producer) = ⊥

abbrev pub StandsAfter : List ℕ → List Batch → List ℕ → ℕ → PartitionFaultKind → Type 0
StandsAfter bytes before rest offset kind =
    StandsAtBytes bytes before rest offset kind ⊎ ((b : Batch) × IsNext rest b × StandsAtBatch before b offset kind)

-- a fault of this kind stands at this offset
pub record Stands (bytes : List ℕ) (offset : ℕ) (kind : PartitionFaultKind) : Type 0 where
  pub before : List Batch
  pub rest : List ℕ
  pub beginning : IsBeginning bytes before rest
  pub here : StandsAfter bytes before rest offset kind

-- it stands, and each that stands does so at a greater offset, or at the same one with no lesser number
pub record IsLeastFault (bytes : List ℕ) (fault : PartitionFault) : Type 0 where
  pub topic : fault.topic ≡ []
  pub partition : fault.partition ≡ pos 0
  pub stands : Stands bytes fault.offset fault.kind
  pub least : (offset : ℕ) (kind : PartitionFaultKind) → Stands bytes offset kind → (fault.offset < offset) ⊎ ((fault.offset ≡ offset) × (number_of fault.kind ≤ number_of kind))
