-- Whether one of those that are left passes a test, one further.
use Rattle.std.proofs.Common.{◌≡◌, ℕ, ◌+◌, ◌<◌, ◌≤◌, ◌||◌, Bool, true, false, List, length, drop, get_or, sym, ap, ◌∙◌}
use Rattle.std.specs.List.{list_any}
use Rattle.std.proofs.lemmas.List.{drop_more}
use Rattle.std.proofs.Math.ListN.{drop_of_length-le}

any_left : {X : Type 0} (test : X → Bool) (xs : List X) (i : ℕ) (x d : X) → i < length xs → x ≡ get_or xs i d → list_any test (drop i xs) ≡ (test x || list_any test (drop (i + 1) xs))
any_left test xs i x d lt is = ap (list_any test) (drop_more xs i d lt) ∙ ap (λ y. test y || list_any test (drop (i + 1) xs)) (sym is)

-- this one does
pub any_here : {X : Type 0} (test : X → Bool) (xs : List X) (i : ℕ) (x d : X) → i < length xs → x ≡ get_or xs i d → test x ≡ true → list_any test (drop i xs) ≡ true
any_here test xs i x d lt is passes = any_left test xs i x d lt is ∙ ap (λ b. b || list_any test (drop (i + 1) xs)) passes

-- this one doesn't
pub any_next : {X : Type 0} (test : X → Bool) (xs : List X) (i : ℕ) (x d : X) → i < length xs → x ≡ get_or xs i d → test x ≡ false → list_any test (drop i xs) ≡ list_any test (drop (i + 1) xs)
any_next test xs i x d lt is not = any_left test xs i x d lt is ∙ ap (λ b. b || list_any test (drop (i + 1) xs)) not

pub any_none : {X : Type 0} (test : X → Bool) (xs : List X) (i : ℕ) → length xs ≤ i → list_any test (drop i xs) ≡ false
any_none test xs i past = ap (list_any test) (drop_of_length-le xs past)
