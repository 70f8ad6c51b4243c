-- What one call changes on a disk.
use Rattle.std.specs.Prelude.{◌≡◌, ◌≢◌, ◌↔◌, ◌⊎◌, ℕ, List, [], ◌++◌, ⊤}
use Rattle.eos_disk.specs.Entries.{Entry, Unknown, Absent, File, Folder, HasBytes, MayBeAbsent, IsKnown}

-- an entry but for the names in a folder, which change with each file in it
abbrev pub bare : Entry → Entry
bare Unknown = Unknown
bare Absent = Absent
bare (File bytes) = File bytes
bare (Folder names) = Folder []

-- a folder stands there, as far as it is known
abbrev pub IsFolder : Entry → Type 0
IsFolder Unknown = ⊤
IsFolder Absent = ⊥
IsFolder (File bytes) = ⊥
IsFolder (Folder names) = ⊤

-- all is as it was, but for the names in folders
abbrev pub SameAll : (List ℕ → Entry) → (List ℕ → Entry) → Type 0
SameAll old new = (q : List ℕ) → bare (new q) ≡ bare (old q)

-- all but what stands at this path is as it was
abbrev pub SameBut : List ℕ → (List ℕ → Entry) → (List ℕ → Entry) → Type 0
SameBut path old new = (q : List ℕ) → q ≢ path → bare (new q) ≡ bare (old q)

-- all but what stands at these two paths is as it was
abbrev pub SameButTwo : List ℕ → List ℕ → (List ℕ → Entry) → (List ℕ → Entry) → Type 0
SameButTwo path other old new = (q : List ℕ) → q ≢ path → q ≢ other → bare (new q) ≡ bare (old q)

-- it is known exactly if it was
abbrev pub SameKnown : Entry → Entry → Type 0
SameKnown old new = IsKnown old ↔ IsKnown new

-- a new file of these bytes stands at this path, and nothing else changed
pub record IsPut (old : List ℕ → Entry) (path bytes : List ℕ) (new : List ℕ → Entry) : Type 0 where
  pub fresh : MayBeAbsent (old path)
  pub at : HasBytes (new path) bytes
  pub known : SameKnown (old path) (new path)
  pub others : SameBut path old new

-- nothing changed, or a new file of a front of these bytes stands there
abbrev pub IsPutInPart : (List ℕ → Entry) → List ℕ → List ℕ → (List ℕ → Entry) → Type 0
IsPutInPart old path bytes new = SameAll old new ⊎ ((front : List ℕ) × (rest : List ℕ) × (bytes ≡ front ++ rest) × IsPut old path front new)

-- what a path leaves behind whose file has another name now: nothing, or the file still
abbrev pub IsLetGo : Entry → Entry → Type 0
IsLetGo old new = (bare new ≡ bare old) ⊎ (MayBeAbsent new × SameKnown old new)

-- the file at the first path stands at the second, at which nothing stood; it may have its first name still, and nothing else changed
pub record IsMoved (old : List ℕ → Entry) (from to : List ℕ) (new : List ℕ → Entry) : Type 0 where
  pub fresh : MayBeAbsent (old to)
  pub at : (bytes : List ℕ) → HasBytes (old from) bytes → HasBytes (new to) bytes
  pub known : SameKnown (old to) (new to)
  pub left : IsLetGo (old from) (new from)
  pub others : SameButTwo to from old new

-- nothing stands at this path any more, and nothing else changed
pub record IsRemoved (old : List ℕ → Entry) (path : List ℕ) (new : List ℕ → Entry) : Type 0 where
  pub at : MayBeAbsent (new path)
  pub known : SameKnown (old path) (new path)
  pub others : SameBut path old new

-- a new folder stands at this path, and nothing else changed
pub record IsMade (old : List ℕ → Entry) (path : List ℕ) (new : List ℕ → Entry) : Type 0 where
  pub fresh : MayBeAbsent (old path)
  pub at : IsFolder (new path)
  pub known : SameKnown (old path) (new path)
  pub others : SameBut path old new

-- one path is another, or leads to it
abbrev pub IsFrontOf : List ℕ → List ℕ → Type 0
IsFrontOf front path = (rest : List ℕ) × (path ≡ front ++ rest)

-- what stood there, or a folder where nothing stood
abbrev pub IsSameOrFolder : Entry → Entry → Type 0
IsSameOrFolder old new = (bare new ≡ bare old) ⊎ (MayBeAbsent old × IsFolder new)

-- folders may stand where nothing stood, at this path and at those that lead to it, and nothing else changed
pub record AreMadeTo (old : List ℕ → Entry) (path : List ℕ) (new : List ℕ → Entry) : Type 0 where
  pub fronts : (q : List ℕ) → IsFrontOf q path → IsSameOrFolder (old q) (new q)
  pub known : (q : List ℕ) → SameKnown (old q) (new q)
  pub others : (q : List ℕ) → (IsFrontOf q path → ⊥) → bare (new q) ≡ bare (old q)

-- a folder stands at this path, and all that lead to it may be new
abbrev pub AreMade : (List ℕ → Entry) → List ℕ → (List ℕ → Entry) → Type 0
AreMade old path new = IsFolder (new path) × AreMadeTo old path new
