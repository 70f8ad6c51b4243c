-- What stands at a path of a disk, as far as it is known. Of what is unknown nothing is claimed.
use Rattle.std.specs.Prelude.{◌≡◌, ℕ, List, Option, Some, ⊤}

pub data Entry : Type 0 where
  Unknown : Entry
  Absent : Entry
  File : (bytes : List ℕ) → Entry
  Folder : (names : List (List ℕ)) → Entry

-- a reader of what stands there has these bytes left
abbrev pub Leaves : Entry → Option (List ℕ) → Type 0
Leaves Unknown left = ⊤
Leaves Absent left = ⊥
Leaves (File bytes) left = left ≡ Some bytes
Leaves (Folder names) left = ⊥

-- a file of these bytes stands there
abbrev pub HasBytes : Entry → List ℕ → Type 0
HasBytes Unknown bytes = ⊤
HasBytes Absent bytes = ⊥
HasBytes (File known) bytes = bytes ≡ known
HasBytes (Folder names) bytes = ⊥

-- a folder of these names stands there
abbrev pub HasNames : Entry → List (List ℕ) → Type 0
HasNames Unknown names = ⊤
HasNames Absent names = ⊥
HasNames (File bytes) names = ⊥
HasNames (Folder known) names = names ≡ known

-- nothing stands there
abbrev pub MayBeAbsent : Entry → Type 0
MayBeAbsent Unknown = ⊤
MayBeAbsent Absent = ⊤
MayBeAbsent (File bytes) = ⊥
MayBeAbsent (Folder names) = ⊥

-- something stands there
abbrev pub MayStand : Entry → Type 0
MayStand Unknown = ⊤
MayStand Absent = ⊥
MayStand (File bytes) = ⊤
MayStand (Folder names) = ⊤

-- no file stands there; a folder may
abbrev pub MayLackFile : Entry → Type 0
MayLackFile Unknown = ⊤
MayLackFile Absent = ⊤
MayLackFile (File bytes) = ⊥
MayLackFile (Folder names) = ⊤

-- it is known what stands there
abbrev pub IsKnown : Entry → Type 0
IsKnown Unknown = ⊥
IsKnown Absent = ⊤
IsKnown (File bytes) = ⊤
IsKnown (Folder names) = ⊤
