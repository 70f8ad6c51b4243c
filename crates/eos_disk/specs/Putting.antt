-- A file that is whole or not there: it is written beside its place, under a name of its own, and then put there.
use Rattle.std.specs.Prelude.{◌≡◌, ◌⊎◌, ℕ, List, [], ◌++◌, codes}
use Rattle.eos_disk.specs.Entries.{Entry, HasBytes, MayBeAbsent}
use Rattle.eos_disk.specs.Changes.{bare, SameBut, SameButTwo, SameKnown}

-- the name under which a file is written first
abbrev pub beside : List ℕ → List ℕ
beside path = path ++ codes ".new"

-- nothing changed but, it may be, what stands at this path
pub record ChangesOnly (path : List ℕ) (old new : List ℕ → Entry) : Type 0 where
  pub known : (q : List ℕ) → SameKnown (old q) (new q)
  pub others : SameBut path old new

-- what stood there, or nothing, or a front of these bytes
abbrev pub IsSameOrFront : Entry → List ℕ → Entry → Type 0
IsSameOrFront old bytes new = (bare new ≡ bare old) ⊎ (MayBeAbsent new ⊎ ((front : List ℕ) × (rest : List ℕ) × (bytes ≡ front ++ rest) × HasBytes new front))

-- a new file of these bytes stands at its path; what stood beside it went, if it didn't become the file; nothing else changed
pub record IsPlacedBy (old : List ℕ → Entry) (by path bytes : List ℕ) (new : List ℕ → Entry) : Type 0 where
  pub fresh : MayBeAbsent (old path)
  pub at : HasBytes (new path) bytes
  pub known : (q : List ℕ) → SameKnown (old q) (new q)
  pub aside : MayBeAbsent (new by) ⊎ HasBytes (new by) bytes
  pub others : SameButTwo path by old new

abbrev pub IsPlaced : (List ℕ → Entry) → List ℕ → List ℕ → (List ℕ → Entry) → Type 0
IsPlaced old path bytes new = IsPlacedBy old (beside path) path bytes new

-- a file of these bytes stands beside, whatever stood there, and nothing else changed
abbrev pub IsWrittenBy : (List ℕ → Entry) → List ℕ → List ℕ → (List ℕ → Entry) → Type 0
IsWrittenBy old by bytes new = ChangesOnly by old new × HasBytes (new by) bytes

-- nothing changed, but what stood beside may be gone
abbrev pub IsTakenBy : (List ℕ → Entry) → List ℕ → (List ℕ → Entry) → Type 0
IsTakenBy old by new = ChangesOnly by old new × ((bare (new by) ≡ bare (old by)) ⊎ MayBeAbsent (new by))

abbrev pub IsTaken : (List ℕ → Entry) → List ℕ → (List ℕ → Entry) → Type 0
IsTaken old path new = IsTakenBy old (beside path) new

-- nothing changed, but beside the path may be nothing, or a front of these bytes
abbrev pub IsLeftBy : (List ℕ → Entry) → List ℕ → List ℕ → (List ℕ → Entry) → Type 0
IsLeftBy old by bytes new = ChangesOnly by old new × IsSameOrFront (old by) bytes (new by)

-- what is left of a file that couldn't be put there: at its path stands what stood there
abbrev pub IsLeft : (List ℕ → Entry) → List ℕ → List ℕ → (List ℕ → Entry) → Type 0
IsLeft old path bytes new = IsLeftBy old (beside path) bytes new

-- a file is begun: nothing stands at its path, an empty one beside it, and nothing else changed
abbrev pub IsBegun : (List ℕ → Entry) → List ℕ → (List ℕ → Entry) → Type 0
IsBegun old path new = MayBeAbsent (old path) × IsWrittenBy old (beside path) [] new
