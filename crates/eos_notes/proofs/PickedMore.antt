-- What is mapped of the items that pass a test, one item further.
use Rattle.std.proofs.Common.{◌≡◌, ℕ, ◌+◌, ◌<◌, List, [], ◌∷◌, ◌++◌, length, take, get_or, map, refl, sym, ap, ◌∙◌, Bool, true, false, cond, if◌then◌else◌}
use Rattle.std.specs.List.{filter}
use Rattle.std.proofs.lemmas.List.{append-nil, take_more, map-append}
use Rattle.std.proofs.lemmas.List.Elements.{filter-append}

chosen : {X Y : Type 0} (q : X → Bool) (g : X → Y) (x : X) → map g (filter q (x ∷ [])) ≡ (if q x then g x ∷ [] else [])
chosen q g x = go (q x)
  where
    go : (b : Bool) → map g (cond b (x ∷ []) []) ≡ (if b then g x ∷ [] else [])
    go true = refl
    go false = refl

pub picked_more : {X Y : Type 0} (q : X → Bool) (g : X → Y) (xs : List X) (i : ℕ) (x : X) → i < length xs → x ≡ get_or xs i x
    → map g (filter q (take (i + 1) xs)) ≡ map g (filter q (take i xs)) ++ (if q x then g x ∷ [] else [])
picked_more {Y = Y} q g xs i x lt is =
    let taken : take (i + 1) xs ≡ take i xs ++ x ∷ [] = take_more xs i x lt ∙ ap (λ y. take i xs ++ y ∷ []) (sym is) in
    ap (λ ys. map g (filter q ys)) taken ∙ (ap (map g) (filter-append q (take i xs) (x ∷ []))
    ∙ (map-append g (filter q (take i xs)) (filter q (x ∷ [])) ∙ ap (λ (ys : List Y). map g (filter q (take i xs)) ++ ys) (chosen q g x)))

-- it passes
pub picked_in : {X Y : Type 0} (q : X → Bool) (g : X → Y) (before after : List Y) (xs : List X) (i : ℕ) (x : X) → i < length xs → x ≡ get_or xs i x → q x ≡ true
    → before ≡ map g (filter q (take i xs)) → after ≡ before ++ g x ∷ [] → after ≡ map g (filter q (take (i + 1) xs))
picked_in {Y = Y} q g before after xs i x lt is passes so_far pushed =
    pushed ∙ (ap (λ (ys : List Y). ys ++ g x ∷ []) so_far ∙ sym (picked_more q g xs i x lt is ∙ ap (λ b. map g (filter q (take i xs)) ++ (if b then g x ∷ [] else [])) passes))

-- it doesn't
pub picked_out : {X Y : Type 0} (q : X → Bool) (g : X → Y) (before after : List Y) (xs : List X) (i : ℕ) (x : X) → i < length xs → x ≡ get_or xs i x → q x ≡ false
    → before ≡ map g (filter q (take i xs)) → after ≡ before → after ≡ map g (filter q (take (i + 1) xs))
picked_out {Y = Y} q g before after xs i x lt is not so_far same =
    let front = map g (filter q (take i xs)) in
    same ∙ (so_far ∙ sym (picked_more q g xs i x lt is ∙ (ap (λ b. front ++ (if b then g x ∷ [] else [])) not ∙ append-nil front)))

-- ---- of what the items stand for

filtered_more : {X Y N : Type 0} (q : N → Bool) (g : Y → N) (f : X → Y) (xs : List X) (i : ℕ) (d : X) → i < length xs
    → filter q (map g (map f (take (i + 1) xs))) ≡ filter q (map g (map f (take i xs))) ++ (if q (g (f (get_or xs i d))) then g (f (get_or xs i d)) ∷ [] else [])
filtered_more q g f xs i d lt =
    let x = get_or xs i d in
    ap (λ ys. filter q (map g (map f ys))) (take_more xs i d lt)
    ∙ (ap (λ ys. filter q (map g ys)) (map-append f (take i xs) (x ∷ []))
    ∙ (ap (filter q) (map-append g (map f (take i xs)) (f x ∷ [])) ∙ filter-append q (map g (map f (take i xs))) (g (f x) ∷ [])))

-- it passes
pub filtered_in : {X Y N : Type 0} (q : N → Bool) (g : Y → N) (f : X → Y) (before after : List N) (xs : List X) (i : ℕ) (d : X) → i < length xs → q (g (f (get_or xs i d))) ≡ true
    → before ≡ filter q (map g (map f (take i xs))) → after ≡ before ++ g (f (get_or xs i d)) ∷ [] → after ≡ filter q (map g (map f (take (i + 1) xs)))
filtered_in {N = N} q g f before after xs i d lt passes so_far pushed =
    let n = g (f (get_or xs i d)) in
    pushed ∙ (ap (λ (ns : List N). ns ++ n ∷ []) so_far ∙ sym (filtered_more q g f xs i d lt ∙ ap (λ b. filter q (map g (map f (take i xs))) ++ (if b then n ∷ [] else [])) passes))

-- it doesn't
pub filtered_out : {X Y N : Type 0} (q : N → Bool) (g : Y → N) (f : X → Y) (before after : List N) (xs : List X) (i : ℕ) (d : X) → i < length xs → q (g (f (get_or xs i d))) ≡ false
    → before ≡ filter q (map g (map f (take i xs))) → after ≡ before → after ≡ filter q (map g (map f (take (i + 1) xs)))
filtered_out q g f before after xs i d lt not so_far same =
    let n = g (f (get_or xs i d)) in
    let front = filter q (map g (map f (take i xs))) in
    same ∙ (so_far ∙ sym (filtered_more q g f xs i d lt ∙ (ap (λ b. front ++ (if b then n ∷ [] else [])) not ∙ append-nil front)))
