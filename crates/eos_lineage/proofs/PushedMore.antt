-- What a loop has pushed for the items before its place, one item further.
use Rattle.std.proofs.Common.{◌≡◌, ℕ, ◌+◌, ◌<◌, List, [], ◌∷◌, ◌++◌, length, map, take, get_or, sym, ap, ◌∙◌}
use Rattle.std.specs.List.{flat_map}
use Rattle.std.proofs.lemmas.Grind.{flat_map-append}
use Rattle.std.proofs.lemmas.List.{append-nil, map-append, take_more}

pub pushed_more : {X Y Z : Type 0} (g : Y → List Z) (v : X → Y) (before after : List Z) (xs : List X) (i : ℕ) (d : X) → i < length xs
    → before ≡ flat_map g (map v (take i xs)) → after ≡ before ++ g (v (get_or xs i d)) → after ≡ flat_map g (map v (take (i + 1) xs))
pushed_more {Z = Z} g v before after xs i d lt so_far pushed =
    let x = v (get_or xs i d) in
    let taken : map v (take (i + 1) xs) ≡ map v (take i xs) ++ x ∷ [] = ap (map v) (take_more xs i d lt) ∙ map-append v (take i xs) (get_or xs i d ∷ []) in
    let all : flat_map g (map v (take (i + 1) xs)) ≡ flat_map g (map v (take i xs)) ++ g x =
    ap (flat_map g) taken ∙ (flat_map-append g (map v (take i xs)) (x ∷ []) ∙ ap (λ (zs : List Z). flat_map g (map v (take i xs)) ++ zs) (append-nil (g x))) in
    pushed ∙ (ap (λ (zs : List Z). zs ++ g x) so_far ∙ sym all)

pub pieces_more : {X Z : Type 0} (g : X → List Z) (before after : List Z) (xs : List X) (i : ℕ) (x : X) → i < length xs → x ≡ get_or xs i x
    → before ≡ flat_map g (take i xs) → after ≡ before ++ g x → after ≡ flat_map g (take (i + 1) xs)
pieces_more {Z = Z} g before after xs i x lt is so_far pushed =
    let taken : take (i + 1) xs ≡ take i xs ++ x ∷ [] = take_more xs i x lt ∙ ap (λ y. take i xs ++ y ∷ []) (sym is) in
    let all : flat_map g (take (i + 1) xs) ≡ flat_map g (take i xs) ++ g x =
    ap (flat_map g) taken ∙ (flat_map-append g (take i xs) (x ∷ []) ∙ ap (λ (zs : List Z). flat_map g (take i xs) ++ zs) (append-nil (g x))) in
    pushed ∙ (ap (λ (zs : List Z). zs ++ g x) so_far ∙ sym all)
