-- What a loop has pushed for the items before its place, one item further.
use Rattle.std.proofs.Common.{◌≡◌, ℕ, ◌+◌, ◌<◌, List, [], ◌∷◌, ◌++◌, length, map, take, get_or, flat_map, sym, ap, ◌∙◌, append_assoc}
use Rattle.std.proofs.lemmas.Grind.{flat_map-append}
use Rattle.std.proofs.lemmas.List.{append-nil, map-append, take_more}

flat_more : {X Y : Type 0} (g : X → List Y) (xs : List X) (i : ℕ) (x : X) → i < length xs → x ≡ get_or xs i x → flat_map g (take (i + 1) xs) ≡ flat_map g (take i xs) ++ g x
flat_more {Y = Y} g xs i x lt is =
    let taken : take (i + 1) xs ≡ take i xs ++ x ∷ [] = take_more xs i x lt ∙ ap (λ y. take i xs ++ y ∷ []) (sym is) in
    ap (flat_map g) taken ∙ (flat_map-append g (take i xs) (x ∷ []) ∙ ap (λ (ys : List Y). flat_map g (take i xs) ++ ys) (append-nil (g x)))

-- behind what was there before
pub pushed_more : {X Y : Type 0} (g : X → List Y) (front before after : List Y) (xs : List X) (i : ℕ) (x : X) → i < length xs → x ≡ get_or xs i x
    → before ≡ front ++ flat_map g (take i xs) → after ≡ before ++ g x → after ≡ front ++ flat_map g (take (i + 1) xs)
pushed_more {Y = Y} g front before after xs i x lt is so_far pushed =
    pushed ∙ (ap (λ (ys : List Y). ys ++ g x) so_far ∙ (append_assoc front (flat_map g (take i xs)) (g x) ∙ ap (λ (ys : List Y). front ++ ys) (sym (flat_more g xs i x lt is))))

-- from nothing
pub made_more : {X Y : Type 0} (g : X → List Y) (before after : List Y) (xs : List X) (i : ℕ) (x : X) → i < length xs → x ≡ get_or xs i x
    → before ≡ flat_map g (take i xs) → after ≡ before ++ g x → after ≡ flat_map g (take (i + 1) xs)
made_more {Y = Y} g before after xs i x lt is so_far pushed =
    pushed ∙ (ap (λ (ys : List Y). ys ++ g x) so_far ∙ sym (flat_more g xs i x lt is))

-- and where each item is named before
pub named_more : {X N Y : Type 0} (h : N → Y) (g : X → N) (front before after : List Y) (xs : List X) (i : ℕ) (d : X) → i < length xs
    → before ≡ front ++ map h (map g (take i xs)) → after ≡ before ++ h (g (get_or xs i d)) ∷ [] → after ≡ front ++ map h (map g (take (i + 1) xs))
named_more {N = N} {Y = Y} h g front before after xs i d lt so_far pushed =
    let x = get_or xs i d in
    let more : map h (map g (take (i + 1) xs)) ≡ map h (map g (take i xs)) ++ h (g x) ∷ [] =
    ap (λ ys. map h (map g ys)) (take_more xs i d lt) ∙ (ap (map h) (map-append g (take i xs) (x ∷ [])) ∙ map-append h (map g (take i xs)) (g x ∷ [])) in
    pushed ∙ (ap (λ (ys : List Y). ys ++ h (g x) ∷ []) so_far ∙ (append_assoc front (map h (map g (take i xs))) (h (g x) ∷ []) ∙ ap (λ (ys : List Y). front ++ ys) (sym more)))
