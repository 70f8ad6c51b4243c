-- What is seen through a function, of a list whose items were changed where it doesn't look.
use Rattle.std.proofs.Common.{◌≡◌, Bool, true, false, List, [], ◌∷◌, map, flat_map, cond, refl, sym, ap, ◌∙◌}
use Rattle.std.specs.List.{filter}
use Rattle.std.proofs.lemmas.List.Folds.{flat_map-map}

pub map_seen : {X Y : Type 0} (k : X → X) (view : X → Y) → ((x : X) → view (k x) ≡ view x) → (xs : List X) → map view (map k xs) ≡ map view xs
map_seen k view seen [] = refl
map_seen k view seen (x ∷ xs) = rw (seen x, map_seen k view seen xs) refl

pub filter_seen : {X Y : Type 0} (k : X → X) (q : X → Bool) (view : X → Y) → ((x : X) → q (k x) ≡ q x) → ((x : X) → q x ≡ true → view (k x) ≡ view x)
    → (xs : List X) → map view (filter q (map k xs)) ≡ map view (filter q xs)
filter_seen k q view asked seen [] = refl
filter_seen {X} {Y} k q view asked seen (x ∷ xs) = go (q x) refl (filter_seen k q view asked seen xs)
  where
    go : (b : Bool) → q x ≡ b → map view (filter q (map k xs)) ≡ map view (filter q xs)
        → map view (cond (q (k x)) (k x ∷ filter q (map k xs)) (filter q (map k xs))) ≡ map view (cond (q x) (x ∷ filter q xs) (filter q xs))
    go true e more = rw (asked x, e, seen x e, more) refl
    go false e more = rw (asked x, e) more

abbrev all : {Z : Type 0} → List Z → List Z
all zs = zs

pub flat_seen : {X Z : Type 0} (k : X → X) (q : X → Bool) (view : X → List Z) → ((x : X) → q (k x) ≡ q x) → ((x : X) → q x ≡ true → view (k x) ≡ view x)
    → (xs : List X) → flat_map view (filter q (map k xs)) ≡ flat_map view (filter q xs)
flat_seen k q view asked seen xs =
    sym (flat_map-map all view (filter q (map k xs))) ∙ (ap (flat_map all) (filter_seen k q view asked seen xs) ∙ flat_map-map all view (filter q xs))
