-- What a loop has put at the end of a list, one item further.
use Rattle.std.proofs.Common.{◌≡◌, ℕ, ◌+◌, ◌<◌, List, [], ◌∷◌, ◌++◌, length, map, take, get_or, sym, ap, ◌∙◌, append_assoc}
use Rattle.std.specs.List.{flat_map}
use Rattle.std.proofs.lemmas.Grind.{flat_map-append}
use Rattle.std.proofs.lemmas.List.{append-nil, map-append, take_more}

pub pushed_onto : {X Y Z : Type 0} (g : Y → List Z) (v : X → Y) (start before after : List Z) (xs : List X) (i : ℕ) (d : X) → i < length xs
    → before ≡ start ++ flat_map g (map v (take i xs)) → after ≡ before ++ g (v (get_or xs i d)) → after ≡ start ++ flat_map g (map v (take (i + 1) xs))
pushed_onto {Z = Z} g v start before after xs i d lt so_far pushed =
    let x = v (get_or xs i d) in
    let front = flat_map g (map v (take i xs)) in
    let taken : map v (take (i + 1) xs) ≡ map v (take i xs) ++ x ∷ [] = ap (map v) (take_more xs i d lt) ∙ map-append v (take i xs) (get_or xs i d ∷ []) in
    let all : flat_map g (map v (take (i + 1) xs)) ≡ front ++ g x = ap (flat_map g) taken ∙ (flat_map-append g (map v (take i xs)) (x ∷ []) ∙ ap (λ (zs : List Z). front ++ zs) (append-nil (g x))) in
    pushed ∙ (ap (λ (zs : List Z). zs ++ g x) so_far ∙ (append_assoc start front (g x) ∙ ap (λ (zs : List Z). start ++ zs) (sym all)))
