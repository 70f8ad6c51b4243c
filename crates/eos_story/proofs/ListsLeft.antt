-- What is left of a list, one further.
use Rattle.std.proofs.Common.{◌≡◌, ◌<◌, ◌+◌, ◌||◌, suc, arith, ℕ, List, ◌∷◌, ◌++◌, Bool, false, drop, flat_map, get_or, length, sym, ap, ◌∙◌, append_assoc}
use Rattle.std.specs.List.{list_any}
use Rattle.std.proofs.Math.Seq.{drop-cons}

left : {X : Type 0} (xs : List X) (i : ℕ) (d : X) → i < length xs → drop i xs ≡ get_or xs i d ∷ drop (i + 1) xs
left xs i d lt = let one : suc i ≡ i + 1 = omega arith in drop-cons xs i d lt ∙ ap (λ n. get_or xs i d ∷ drop n xs) one

-- this one doesn't
pub any_next : {X : Type 0} (test : X → Bool) (xs : List X) (i : ℕ) (x : X) (said all : Bool) → i < length xs → x ≡ get_or xs i x → said ≡ test x → said ≡ false → all ≡ list_any test (drop i xs) → all ≡ list_any test (drop (i + 1) xs)
any_next test xs i x said all lt is of not before =
    before ∙ (ap (list_any test) (left xs i x lt) ∙ ap (λ b. b || list_any test (drop (i + 1) xs)) (sym (ap test is) ∙ (sym of ∙ not)))

pub flat_next : {X Y : Type 0} (f : X → List Y) (xs : List X) (i : ℕ) (d : X) (old now all : List Y) → i < length xs → now ≡ old ++ f (get_or xs i d) → old ++ flat_map f (drop i xs) ≡ all
    → now ++ flat_map f (drop (i + 1) xs) ≡ all
flat_next f xs i d old now all lt is before =
    let rest = flat_map f (drop (i + 1) xs) in
    ap (λ z. z ++ rest) is ∙ (append_assoc old (f (get_or xs i d)) rest ∙ (ap (λ z. old ++ z) (sym (ap (flat_map f) (left xs i d lt))) ∙ before))
