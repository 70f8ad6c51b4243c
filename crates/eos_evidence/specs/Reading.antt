-- What reading a segment leaves of a reader. A segment file of Kafka's log holds record batches and
-- nothing else (Message Format), so its bytes are all that the reader gives.
use Rattle.std.specs.Prelude.{◌≡◌, ◌≤◌, ℕ, List, Option, length}
use Rattle.std.specs.Io.KnownBytes.{Consumes}

-- the first bytes that were left were taken, this many
abbrev pub Takes : ℕ → Option (List ℕ) → Option (List ℕ) → Type 0
Takes count old new = (bytes : List ℕ) × (length bytes ≡ count) × Consumes old new bytes

-- the first bytes that were left were taken, at most this many
abbrev pub TakesAtMost : ℕ → Option (List ℕ) → Option (List ℕ) → Type 0
TakesAtMost most old new = (bytes : List ℕ) × (length bytes ≤ most) × Consumes old new bytes
