-- What a loop has pushed for the items before its place, one item further.
use Rattle.std.proofs.Common.{◌≡◌, ℕ, ◌+◌, ◌<◌, List, [], ◌∷◌, ◌++◌, zero, suc, length, take, get_or, flat_map, refl, sym, subst, ap, ◌∙◌, inl, inr, arith}
use Rattle.eos_base.specs.Members.{Has}
use Rattle.std.proofs.lemmas.Grind.{flat_map-append}
use Rattle.std.proofs.lemmas.List.{append-nil, take_more}

pub pushed_more : {X Y : Type 0} (g : X → List Y) (before after : List Y) (xs : List X) (i : ℕ) (x : X) → i < length xs → x ≡ get_or xs i x
    → before ≡ flat_map g (take i xs) → after ≡ before ++ g x → after ≡ flat_map g (take (i + 1) xs)
pushed_more {Y = Y} g before after xs i x lt is so_far pushed =
    let taken : take (i + 1) xs ≡ take i xs ++ x ∷ [] = take_more xs i x lt ∙ ap (λ y. take i xs ++ y ∷ []) (sym is) in
    let all : flat_map g (take (i + 1) xs) ≡ flat_map g (take i xs) ++ g x =
    ap (flat_map g) taken ∙ (flat_map-append g (take i xs) (x ∷ []) ∙ ap (λ (ys : List Y). flat_map g (take i xs) ++ ys) (append-nil (g x))) in
    pushed ∙ (ap (λ (ys : List Y). ys ++ g x) so_far ∙ sym all)

-- a loop's item is a member
pub item_has : {X : Type 0} (xs : List X) (i : ℕ) (x : X) → i < length xs → x ≡ get_or xs i x → Has xs x
item_has xs i x lt is = subst (Has xs) (sym is) (at xs i x lt)
  where
    at : {X : Type 0} (xs : List X) (i : ℕ) (d : X) → i < length xs → Has xs (get_or xs i d)
    at [] i d lt = absurd (omega (arith, lt))
    at (x ∷ xs) zero d lt = inl refl
    at (x ∷ xs) (suc i) d lt = inr (at xs i d (omega (arith, lt)))
