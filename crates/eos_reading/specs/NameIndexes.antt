-- The index of a name among those that are asked for: kept values name topics and groups by it, and hold no bytes of them.
use Rattle.std.specs.Prelude.{ℕ, List, Option, position}
use Rattle.std.specs.Bool.{nat_eq}
use Rattle.std.specs.Cmp.Lexicographic.{pointwise}

-- the first of these names that is this one
abbrev pub index_of : List (List ℕ) → List ℕ → Option ℕ
index_of names name = position (λ one. pointwise nat_eq one name) names
