-- What a loop has made of the items before its place, one item further.
use Rattle.std.proofs.Common.{◌≡◌, ℕ, zero, suc, ◌<◌, List, [], ◌∷◌, ◌++◌, length, map, get_or, take, fold, sym, ap, subst, ◌∙◌, ◌+◌, append_assoc, arith}
use Rattle.std.specs.List.{flat_map}
use Rattle.std.proofs.lemmas.List.Sums.{fold-append}
use Rattle.std.proofs.lemmas.Grind.{flat_map-append}
use Rattle.std.proofs.lemmas.List.{append-nil, map-append, take_more}

fold_suc : {B X F : Type 0} (step : B → F → B) (g : X → List F) (b : B) (xs : List X) (i : ℕ) (d : X) → i < length xs
    → fold step b (flat_map g (take (suc i) xs)) ≡ fold step (fold step b (flat_map g (take i xs))) (g (get_or xs i d))
fold_suc step g b [] i d lt = absurd (omega arith)
fold_suc step g b (x ∷ xs) zero d lt = ap (fold step b) (append-nil (g x))
fold_suc step g b (x ∷ xs) (suc i) d lt =
    fold-append step b (g x) (flat_map g (take (suc i) xs))
    ∙ (fold_suc step g (fold step b (g x)) xs i d (omega arith) ∙ ap (λ z. fold step z (g (get_or xs i d))) (sym (fold-append step b (g x) (flat_map g (take i xs)))))

pub fold_more : {B X F : Type 0} (step : B → F → B) (g : X → List F) (b : B) (xs : List X) (i : ℕ) (d : X) → i < length xs
    → fold step b (flat_map g (take (i + 1) xs)) ≡ fold step (fold step b (flat_map g (take i xs))) (g (get_or xs i d))
fold_more step g b xs i d lt =
    let e : suc i ≡ i + 1 = omega arith in
    subst (λ k. fold step b (flat_map g (take k xs)) ≡ fold step (fold step b (flat_map g (take i xs))) (g (get_or xs i d))) e (fold_suc step g b xs i d lt)

pub folded_at : {B X F : Type 0} (step : B → F → B) (g : X → List F) (b now next : B) (xs : List X) (i : ℕ) (d : X) → i < length xs
    → now ≡ fold step b (flat_map g (take i xs)) → next ≡ fold step now (g (get_or xs i d)) → next ≡ fold step b (flat_map g (take (i + 1) xs))
folded_at step g b now next xs i d lt so_far here = here ∙ (ap (λ z. fold step z (g (get_or xs i d))) so_far ∙ sym (fold_more step g b xs i d lt))

taken_more : {X : Type 0} (xs : List X) (i : ℕ) (x : X) → i < length xs → x ≡ get_or xs i x → take (i + 1) xs ≡ take i xs ++ x ∷ []
taken_more xs i x lt is = take_more xs i x lt ∙ ap (λ y. take i xs ++ y ∷ []) (sym is)

pub pushed_more : {X Y : Type 0} (g : X → List Y) (before after : List Y) (xs : List X) (i : ℕ) (x : X) → i < length xs → x ≡ get_or xs i x
    → before ≡ flat_map g (take i xs) → after ≡ before ++ g x → after ≡ flat_map g (take (i + 1) xs)
pushed_more {Y = Y} g before after xs i x lt is so_far pushed =
    let all : flat_map g (take (i + 1) xs) ≡ flat_map g (take i xs) ++ g x =
    ap (flat_map g) (taken_more xs i x lt is) ∙ (flat_map-append g (take i xs) (x ∷ []) ∙ ap (λ (ys : List Y). flat_map g (take i xs) ++ ys) (append-nil (g x))) in
    pushed ∙ (ap (λ (ys : List Y). ys ++ g x) so_far ∙ sym all)

pub mapped_more : {X Y : Type 0} (g : X → Y) (before after : List Y) (xs : List X) (i : ℕ) (x : X) → i < length xs → x ≡ get_or xs i x
    → before ≡ map g (take i xs) → after ≡ before ++ g x ∷ [] → after ≡ map g (take (i + 1) xs)
mapped_more {Y = Y} g before after xs i x lt is so_far pushed =
    let all : map g (take (i + 1) xs) ≡ map g (take i xs) ++ g x ∷ [] = ap (map g) (taken_more xs i x lt is) ∙ map-append g (take i xs) (x ∷ []) in
    pushed ∙ (ap (λ (ys : List Y). ys ++ g x ∷ []) so_far ∙ sym all)

-- the same behind what was there before
pub behind_more : {X Y : Type 0} (g : X → List Y) (start before after : List Y) (xs : List X) (i : ℕ) (d : X) → i < length xs
    → before ≡ start ++ flat_map g (take i xs) → after ≡ before ++ g (get_or xs i d) → after ≡ start ++ flat_map g (take (i + 1) xs)
behind_more {Y = Y} g start before after xs i d lt so_far pushed =
    let x = get_or xs i d in
    let more : flat_map g (take (i + 1) xs) ≡ flat_map g (take i xs) ++ g x =
    ap (flat_map g) (take_more xs i d lt) ∙ (flat_map-append g (take i xs) (x ∷ []) ∙ ap (λ (ys : List Y). flat_map g (take i xs) ++ ys) (append-nil (g x))) in
    pushed ∙ (ap (λ (ys : List Y). ys ++ g x) so_far ∙ (append_assoc start (flat_map g (take i xs)) (g x) ∙ ap (λ (ys : List Y). start ++ ys) (sym more)))

-- and where each item is named before
pub named_more : {X N Y : Type 0} (h : N → Y) (g : X → N) (start before after : List Y) (xs : List X) (i : ℕ) (d : X) → i < length xs
    → before ≡ start ++ map h (map g (take i xs)) → after ≡ before ++ h (g (get_or xs i d)) ∷ [] → after ≡ start ++ map h (map g (take (i + 1) xs))
named_more {N = N} {Y = Y} h g start before after xs i d lt so_far pushed =
    let x = get_or xs i d in
    let more : map h (map g (take (i + 1) xs)) ≡ map h (map g (take i xs)) ++ h (g x) ∷ [] =
    ap (λ ys. map h (map g ys)) (take_more xs i d lt) ∙ (ap (map h) (map-append g (take i xs) (x ∷ [])) ∙ map-append h (map g (take i xs)) (g x ∷ [])) in
    pushed ∙ (ap (λ (ys : List Y). ys ++ h (g x) ∷ []) so_far ∙ (append_assoc start (map h (map g (take i xs))) (h (g x) ∷ []) ∙ ap (λ (ys : List Y). start ++ ys) (sym more)))
