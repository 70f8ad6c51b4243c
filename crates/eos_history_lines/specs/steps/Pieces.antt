-- The first line of a text.
use Rattle.std.specs.Prelude.{◌≡◌, ◌==◌, ℕ, List, [], ◌∷◌, ◌++◌, Bool, false, Option, None, Some}
use Rattle.std.specs.List.{list_any}

abbrev pub has_feed : List ℕ → Bool
has_feed text = list_any (λ byte. byte == 10) text

-- nothing else than the line, or the line, the line feed and the rest; no line feed is in the line
abbrev pub IsFirstLine : List ℕ → List ℕ → Option (List ℕ) → Type 0
IsFirstLine text line None = (line ≡ text) × (has_feed line ≡ false)
IsFirstLine text line (Some rest) = (text ≡ line ++ 10 ∷ rest) × (has_feed line ≡ false)

-- what follows the line feed, or nothing
abbrev pub or_nothing : Option (List ℕ) → List ℕ
or_nothing None = []
or_nothing (Some rest) = rest
