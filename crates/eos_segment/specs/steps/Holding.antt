-- The steps of a listing that is written as it grows.
use Rattle.std.specs.Prelude.{◌≡◌, ℕ, ◌≤◌, List, ◌++◌, length, drop, Option}
use Rattle.std.specs.Io.KnownBytes.{Appends}
use Rattle.eos_batch.specs.declared.batch.Batch.{Batch}
use Rattle.eos_segment.specs.Listing.{IsListingFrom}

-- The lines of the batches before this byte were written or are held back: with what is listed from here they are the whole.
pub record HasListed (lines_of : ℕ → Batch → List ℕ) (bytes : List ℕ) (old new : Option (List ℕ)) (held : List ℕ) (byte : ℕ) : Type 0 where
  pub written : List ℕ
  pub grown : Appends old new written
  pub within : byte ≤ length bytes
  pub goes_on : (text : List ℕ) (status : ℕ) → IsListingFrom lines_of byte (drop byte bytes) text status → IsListingFrom lines_of 0 bytes ((written ++ held) ++ text) status

-- what was held back was written, or is held back still
abbrev pub Passes : Option (List ℕ) → Option (List ℕ) → List ℕ → List ℕ → Type 0
Passes old new held still = (written : List ℕ) × (held ≡ written ++ still) × Appends old new written
