-- What a run leaves at a path at which nothing stood: a text as a new file, or nothing.
use Rattle.std.specs.Prelude.{◌≡◌, ℕ, List, Option, None, Some}
use Rattle.eos_disk.specs.Entries.{Entry}
use Rattle.eos_disk.specs.Changes.{bare}
use Rattle.eos_disk.specs.Putting.{ChangesOnly, IsPlaced, beside}

-- at the path stands what stood there, and of all else only what lies beside it may be another
pub record Stays (old : List ℕ → Entry) (path : List ℕ) (new : List ℕ → Entry) : Type 0 where
  pub at : bare (new path) ≡ bare (old path)
  pub others : ChangesOnly (beside path) old new

abbrev pub IsLeftAs : (List ℕ → Entry) → List ℕ → Option (List ℕ) → (List ℕ → Entry) → Type 0
IsLeftAs old path None new = Stays old path new
IsLeftAs old path (Some text) new = IsPlaced old path text new
