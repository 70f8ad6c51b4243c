-- Membership.
use Rattle.std.specs.Prelude.{◌≡◌, ◌⊎◌, Bool, List, [], ◌∷◌}
use Rattle.std.specs.List.{list_any}
use Rattle.std.specs.Ordering.{is_eq}
use Rattle.std.specs.declared.cmp.Ordering.{Ordering}

abbrev pub Has : {X : Type 0} → List X → X → Type 0
Has [] x = ⊥
Has (y ∷ ys) x = (y ≡ x) ⊎ Has ys x

-- whether one of the list is tied with the key
abbrev pub is_found : {X : Type 0} → (X → X → Ordering) → List X → X → Bool
is_found cmp xs key = list_any (λ y. is_eq (cmp y key)) xs
