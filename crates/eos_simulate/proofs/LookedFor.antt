-- Whether one of a list passes a test, looked for from the first on.
use Rattle.std.proofs.Common.{◌≡◌, ℕ, ◌+◌, ◌<◌, ◌≤◌, Bool, false, ◌||◌, List, ◌∷◌, drop, length, get_or, sym, ap, ◌∙◌}
use Rattle.std.specs.List.{list_any}
use Rattle.std.proofs.lemmas.List.{drop_all, drop_more}

-- the next one passes it or doesn't, and those behind it come after
pub looked_at : {X : Type 0} (p : X → Bool) (xs : List X) (i : ℕ) (x : X) (b : Bool) → i < length xs → x ≡ get_or xs i x → b ≡ p x → list_any p (drop i xs) ≡ list_any p xs
    → (b || list_any p (drop (i + 1) xs)) ≡ list_any p xs
looked_at {X} p xs i x b lt is told h =
    let split : drop i xs ≡ x ∷ drop (i + 1) xs = drop_more xs i x lt ∙ ap (λ (y : X). y ∷ drop (i + 1) xs) (sym is) in
    ap (λ (t : Bool). t || list_any p (drop (i + 1) xs)) told ∙ (ap (λ (ys : List X). list_any p ys) (sym split) ∙ h)

-- none of them did
pub none_found : {X : Type 0} (p : X → Bool) (xs : List X) (i : ℕ) → length xs ≤ i → list_any p (drop i xs) ≡ list_any p xs → false ≡ list_any p xs
none_found {X} p xs i end h = ap (λ (ys : List X). list_any p ys) (sym (drop_all i xs end)) ∙ h
