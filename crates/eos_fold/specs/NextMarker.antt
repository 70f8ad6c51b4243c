-- The next marker by offsets: the end marker of an id with the least greater offset.
use Rattle.std.specs.Prelude.{◌≡◌, ℕ, ◌+◌, ◌<◌, ◌≤◌, ◌⊎◌, ℤ, List, [], ◌∷◌, ◌++◌, Some, ⊤}
use Rattle.eos_batch.specs.declared.batch.Batch.{Batch}
use Rattle.eos_batch.specs.Offsets.{offset_of}
use Rattle.eos_fold.specs.declared.mark.EndMark.{EndMark}
use Rattle.eos_fold.specs.Ends.{marks_of, first_marker}

-- offsets rise, from this one on
abbrev pub RisesFrom : ℕ → List Batch → Type 0
RisesFrom at [] = ⊤
RisesFrom at (h ∷ hs) = (at ≤ offset_of h) × RisesFrom (offset_of h + 1) hs

abbrev pub Has : List EndMark → EndMark → Type 0
Has [] m = ⊥
Has (x ∷ xs) m = (x ≡ m) ⊎ Has xs m

pub record IsNextMarker (id : ℤ) (offset : ℕ) (hs : List Batch) (m : EndMark) : Type 0 where
  pub among : Has (marks_of hs) m
  pub of : m.producer ≡ id
  pub greater : offset < m.offset
  pub least : (n : EndMark) → Has (marks_of hs) n → n.producer ≡ id → offset < n.offset → m.offset ≤ n.offset

-- the first marker in the rest of the list is the next one by offsets in the whole
abbrev pub FirstIsNext : Type 0
FirstIsNext = (before after : List Batch) (h : Batch) (id : ℤ) (m : EndMark) → RisesFrom 0 (before ++ h ∷ after) → first_marker id after ≡ Some m → IsNextMarker id (offset_of h) (before ++ h ∷ after) m
