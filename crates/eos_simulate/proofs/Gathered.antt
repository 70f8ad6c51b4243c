-- What is gathered from a list, one more at a time.
use Rattle.std.proofs.Common.{◌≡◌, ℕ, ◌+◌, ◌<◌, ◌≤◌, List, [], ◌∷◌, ◌++◌, map, flat_map, take, length, get_or, sym, ap, ◌∙◌}
use Rattle.std.proofs.lemmas.List.{flat_map_more, map_more, take_all, take_more}

-- of each some
pub some_more : {X A : Type 0} (f : X → List A) (xs : List X) (i : ℕ) (x : X) (out new : List A) → i < length xs → x ≡ get_or xs i x → new ≡ out ++ f x → out ≡ flat_map f (take i xs) → new ≡ flat_map f (take (i + 1) xs)
some_more {X} {A} f xs i x out new lt is more h =
    let split : take (i + 1) xs ≡ take i xs ++ x ∷ [] = take_more xs i x lt ∙ ap (λ (y : X). take i xs ++ y ∷ []) (sym is) in
    more ∙ (ap (λ (ys : List A). ys ++ f x) h ∙ (flat_map_more f [] (take i xs) x ∙ ap (flat_map f) (sym split)))

pub some_of_all : {X A : Type 0} (f : X → List A) (xs : List X) (i : ℕ) (out : List A) → length xs ≤ i → out ≡ flat_map f (take i xs) → out ≡ flat_map f xs
some_of_all f xs i out end h = h ∙ ap (flat_map f) (take_all i xs end)

-- of each one
pub one_more : {X Y : Type 0} (f : X → Y) (xs : List X) (i : ℕ) (x : X) (y : Y) (out new : List Y) → i < length xs → x ≡ get_or xs i x → new ≡ out ++ y ∷ [] → y ≡ f x → out ≡ map f (take i xs) → new ≡ map f (take (i + 1) xs)
one_more {X} {Y} f xs i x y out new lt is more own h =
    more ∙ (ap (λ (ys : List Y). ys ++ y ∷ []) h ∙ (ap (λ (z : Y). map f (take i xs) ++ z ∷ []) (own ∙ ap f is) ∙ sym (map_more f xs i x lt)))
