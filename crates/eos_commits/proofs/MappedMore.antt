-- What is mapped: of a loop's items one item further, and what of it has a property.
use Rattle.std.proofs.Common.{◌≡◌, ℕ, ◌+◌, ◌<◌, List, [], ◌∷◌, ◌++◌, length, map, take, get_or, refl, sym, ap, ◌∙◌, true, false, Bool, arith, cond}
use Rattle.std.specs.List.{filter}
use Rattle.std.proofs.lemmas.List.{map-append, take_more}

pub mapped_more : {X Z : Type 0} (v : X → Z) (before after : List Z) (xs : List X) (i : ℕ) (d : X) → i < length xs
    → before ≡ map v (take i xs) → after ≡ before ++ v (get_or xs i d) ∷ [] → after ≡ map v (take (i + 1) xs)
mapped_more {Z = Z} v before after xs i d lt so_far pushed =
    let x = v (get_or xs i d) in
    let all : map v (take (i + 1) xs) ≡ map v (take i xs) ++ x ∷ [] = ap (map v) (take_more xs i d lt) ∙ map-append v (take i xs) (get_or xs i d ∷ []) in
    pushed ∙ (ap (λ (zs : List Z). zs ++ x ∷ []) so_far ∙ sym all)

pub length_mapped : {X Y : Type 0} (q : Y → Bool) (f : X → Y) (xs : List X) → length (filter q (map f xs)) ≡ length (filter (λ x. q (f x)) xs)
length_mapped q f [] = refl
length_mapped q f (x ∷ xs) = go (q (f x)) (length_mapped q f xs)
  where
    go : (b : Bool) → length (filter q (map f xs)) ≡ length (filter (λ x. q (f x)) xs)
        → length (cond b (f x ∷ filter q (map f xs)) (filter q (map f xs))) ≡ length (cond b (x ∷ filter (λ x. q (f x)) xs) (filter (λ x. q (f x)) xs))
    go true r = omega (arith, r)
    go false r = r
