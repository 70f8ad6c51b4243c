-- Neighbours among keys.
use Rattle.std.specs.Prelude.{◌≢◌, ◌<◌, ◌+◌, ℕ, ℤ, List, length, slice_index_or, pos}

abbrev pub pair_at : List (ℤ × ℤ) → ℕ → ℤ × ℤ
pair_at xs i = slice_index_or xs i (pos 0, pos 0)

-- no two neighbours are equal
abbrev pub AreApart : List (ℤ × ℤ) → Type 0
AreApart xs = (j : ℕ) → j + 1 < length xs → pair_at xs j ≢ pair_at xs (j + 1)
