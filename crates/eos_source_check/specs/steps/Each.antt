-- The times at rising offsets, segment by segment: of each segment those at the offsets that lie in it.
use Rattle.std.specs.Prelude.{◌≡◌, ℕ, ℤ, List, [], ◌∷◌, Option, Bool, true, false, ◌||◌, ◌==◌}
use Rattle.eos_evidence.specs.declared.segment.Segment.{Segment}
use Rattle.eos_source.specs.Said.{Known}
use Rattle.eos_source_check.specs.Times.{AreTimesOf, AreTimesAgain, first_at}

abbrev pub among : ℕ → List ℕ → Bool
among offset [] = false
among offset (x ∷ xs) = (x == offset) || among offset xs

-- at each of these offsets the times of a segment are those that are read for it alone
abbrev pub AreEachOf : Known → Segment → Option ℕ → List ℕ → List (ℕ × ℤ) → Type 0
AreEachOf known name next offsets times =
    (offset : ℕ) → among offset offsets ≡ true → (alone : List (ℕ × ℤ)) × AreTimesOf known name next (offset ∷ []) alone × (first_at offset times ≡ first_at offset alone)

-- and those of a partition
abbrev pub AreEachAgain : (ℕ → Known) → ℕ → List Segment → List ℕ → List (ℕ × ℤ) → Type 0
AreEachAgain known first names offsets times =
    (offset : ℕ) → among offset offsets ≡ true → (alone : List (ℕ × ℤ)) × AreTimesAgain known first names (offset ∷ []) alone × (first_at offset times ≡ first_at offset alone)
