-- Stretches of a list, from one place up to another one.
use Rattle.std.proofs.Common.{◌≡◌, ◌<◌, ◌≤◌, ◌+◌, ◌⊎◌, inl, inr, ℕ, zero, suc, List, [], ◌∷◌, ◌++◌, length, take, drop, take_all, get_or, refl, sym, ap, subst, ◌∙◌, arith}
use Rattle.std.specs.List.{flat_map}
use Rattle.std.proofs.lemmas.Grind.{flat_map-append}
use Rattle.std.proofs.lemmas.List.{append-nil, take_more, drop-append-le, length-take-le}

-- what a walk gives, one place further
pub one_further : {X Z : Type 0} (g : X → List Z) (xs : List X) (from i : ℕ) (x : X) → from ≤ i → i < length xs → x ≡ get_or xs i x
    → flat_map g (drop from (take (i + 1) xs)) ≡ flat_map g (drop from (take i xs)) ++ g x
one_further {X} {Z} g xs from i x le lt is =
    let long : from ≤ length (take i xs) = subst (λ n. from ≤ n) (sym (length-take-le i xs (omega (arith, lt)))) le in
    let taken : take (i + 1) xs ≡ take i xs ++ x ∷ [] = take_more xs i x lt ∙ ap (λ y. take i xs ++ y ∷ []) (sym is) in
    ap (λ (ys : List X). flat_map g (drop from ys)) taken
    ∙ (ap (flat_map g) (drop-append-le from (take i xs) (x ∷ []) long)
    ∙ (flat_map-append g (drop from (take i xs)) (x ∷ []) ∙ ap (λ (zs : List Z). flat_map g (drop from (take i xs)) ++ zs) (append-nil (g x))))

pub nothing_between : {X : Type 0} (from until : ℕ) (xs : List X) → until ≤ from → drop from (take until xs) ≡ []
nothing_between zero zero xs le = refl
nothing_between (suc f) zero xs le = refl
nothing_between zero (suc u) xs le = absurd (omega (arith, le))
nothing_between (suc f) (suc u) [] le = refl
nothing_between (suc f) (suc u) (x ∷ xs) le = nothing_between f u xs (omega (arith, le))

-- one stretch and then another one
pub both_between : {X : Type 0} (from mid until : ℕ) (xs : List X) → from ≤ mid → mid ≤ until → drop from (take mid xs) ++ drop mid (take until xs) ≡ drop from (take until xs)
both_between zero zero u xs p q = refl
both_between zero (suc m) zero xs p q = absurd (omega (arith, q))
both_between zero (suc m) (suc u) [] p q = refl
both_between {X} zero (suc m) (suc u) (x ∷ xs) p q = ap (λ (ys : List X). x ∷ ys) (both_between zero m u xs (omega arith) (omega (arith, q)))
both_between (suc f) zero u xs p q = absurd (omega (arith, p))
both_between (suc f) (suc m) zero xs p q = absurd (omega (arith, q))
both_between (suc f) (suc m) (suc u) [] p q = refl
both_between (suc f) (suc m) (suc u) (x ∷ xs) p q = both_between f m u xs (omega (arith, p)) (omega (arith, q))

pub all_between : {X : Type 0} (xs : List X) → drop 0 (take (length xs) xs) ≡ xs
all_between xs = take_all (length xs) xs (omega arith)

-- where a walk from one place up to another one ends
pub at_end : {X : Type 0} (from until i : ℕ) (xs : List X) → until ≤ i → (i ≤ until) ⊎ (i ≡ from) → drop from (take i xs) ≡ drop from (take until xs)
at_end {X} from until i xs le (inl few) = let e : i ≡ until = omega (arith, le, few) in ap (λ n. drop from (take n xs)) e
at_end from until i xs le (inr e) = nothing_between from i xs (omega (arith, e)) ∙ sym (nothing_between from until xs (omega (arith, e, le)))
