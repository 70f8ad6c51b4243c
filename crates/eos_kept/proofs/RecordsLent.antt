-- A record of a list that is mapped.
use Rattle.std.proofs.Common.{◌≡◌, ℕ, zero, suc, ◌<◌, List, [], ◌∷◌, length, map, Some, refl, ap, ◌∙◌, arith}
use Rattle.std.specs.Prelude.{option_map}
use Rattle.std.specs.List.{slice_get}
use Rattle.std.proofs.lemmas.Option.{slice_get-map}

pub each_same : {X Y : Type 0} (xs : List X) (i : ℕ) (y : Y) → i < length (map (λ (x : X). y) xs) → slice_get (map (λ (x : X). y) xs) i ≡ Some y
each_same [] i y lt = absurd (omega (arith, lt))
each_same (x ∷ xs) zero y lt = refl
each_same (x ∷ xs) (suc i) y lt = each_same xs i y (omega (arith, lt))

pub lent_at : {X Y : Type 0} (f : X → Y) (xs : List X) (i : ℕ) (x : X) → slice_get xs i ≡ Some x → slice_get (map f xs) i ≡ Some (f x)
lent_at f xs i x e = slice_get-map f xs i ∙ ap (option_map f) e
