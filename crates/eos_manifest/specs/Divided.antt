-- Texts that a mark divides, as the lines of a file, the fields of a line and the items of a list.
use Rattle.std.specs.Prelude.{ℕ, ◌==◌, List, [], ◌∷◌, Option, Some, None, if◌then◌else◌}

-- one more byte at the front of the first of these
abbrev pub with_first : ℕ → List (List ℕ) → List (List ℕ)
with_first byte [] = (byte ∷ []) ∷ []
with_first byte (piece ∷ pieces) = (byte ∷ piece) ∷ pieces

-- what stands before, between and after the marks; after the last byte the pieces end so
unfoldable pub divided : List (List ℕ) → ℕ → List ℕ → List (List ℕ)
divided last mark [] = last
divided last mark (byte ∷ bytes) = if byte == mark then [] ∷ divided last mark bytes else with_first byte (divided last mark bytes)

-- the lines of a text; after the last newline none begins
abbrev pub lines_of : List ℕ → List (List ℕ)
lines_of text = divided [] 10 text

-- the items between commas, at least one
abbrev pub items_of : List ℕ → List (List ℕ)
items_of text = divided ([] ∷ []) 44 text

-- what stands before the last mark and after it
abbrev pub split_before : ℕ → ℕ → List ℕ → Option (List ℕ × List ℕ) → Option (List ℕ × List ℕ)
split_before mark byte bytes None = if byte == mark then Some ([], bytes) else None
split_before mark byte bytes (Some parts) = Some (byte ∷ parts.0, parts.1)

unfoldable pub last_split : ℕ → List ℕ → Option (List ℕ × List ℕ)
last_split mark [] = None
last_split mark (byte ∷ bytes) = split_before mark byte bytes (last_split mark bytes)
