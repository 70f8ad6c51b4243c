-- Where the front of a segment ends: record batches one after the other, each at the offset after the last record of the one
-- before (Kafka's documentation, Message Format, "Record Batch": baseOffset, lastOffsetDelta).
use Rattle.std.specs.Prelude.{◌≡◌, ◌≢◌, ◌+◌, ℕ, pos, List, [], ◌∷◌, Ok, length}
use Rattle.eos_batch.specs.declared.batch.Batch.{Batch}
use Rattle.eos_batch.specs.Reading.{batch_at}
use Rattle.eos_batch.specs.Segment.{Splits}

-- these stand at their offsets, from the first on, and the offset after the last is the second
abbrev pub Runs : ℕ → List Batch → ℕ → Type 0
Runs from [] end = from ≡ end
Runs from (b ∷ bs) end = (b.base_offset ≡ pos from) × Runs (from + length b.records) bs end

-- no batch of this offset begins the bytes
abbrev pub HasNoNext : ℕ → List ℕ → Type 0
HasNoNext at bytes = (b : Batch) (size : ℕ) → batch_at bytes ≡ Ok (b, size) → b.base_offset ≢ pos at

-- the front of these bytes, begun at an offset, ends at another
pub record IsFrontTo (from : ℕ) (bytes : List ℕ) (end : ℕ) (rest : List ℕ) : Type 0 where
  pub batches : List Batch
  pub texts : Splits bytes batches rest
  pub runs : Runs from batches end
  pub none_more : HasNoNext end rest
