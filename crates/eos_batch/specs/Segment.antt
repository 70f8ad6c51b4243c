-- A segment file: record batches one after the other, and where they stop (Kafka's documentation, "Log").
use Rattle.std.specs.Prelude.{◌≡◌, ◌≢◌, ℕ, ◌+◌, List, [], ◌∷◌, ◌++◌, length, Option, Some, None, Err}
use Rattle.eos_batch.specs.declared.fault.BatchFault.{BatchFault}
use Rattle.eos_batch.specs.declared.fault.BatchFault.TheVariants.{OutOfMemory}
use Rattle.eos_batch.specs.declared.batch.Batch.{Batch}
use Rattle.eos_batch.specs.Text.{IsBatchText}
use Rattle.eos_batch.specs.Reading.{batch_at}

-- the bytes are texts of these batches, and the rest
abbrev pub Splits : List ℕ → List Batch → List ℕ → Type 0
Splits bytes [] rest = bytes ≡ rest
Splits bytes (b ∷ bs) rest = (text more : List ℕ) × IsBatchText text b × (bytes ≡ text ++ more) × Splits more bs rest

-- nothing is left, or what is left begins at this place and with no batch, for this fault
abbrev pub StopsAt : List ℕ → List ℕ → Option (ℕ × BatchFault) → Type 0
StopsAt bytes rest None = rest ≡ []
StopsAt bytes rest (Some stop) = (rest ≢ []) × (stop.0 + length rest ≡ length bytes) × (batch_at rest ≡ Err stop.1) × (stop.1 ≢ OutOfMemory)

-- all batches of a segment, or those before the first fault and its place
abbrev pub IsSegmentText : List ℕ → List Batch → Option (ℕ × BatchFault) → Type 0
IsSegmentText bytes batches stop = (rest : List ℕ) × Splits bytes batches rest × StopsAt bytes rest stop
