-- Sums over the seats' views, after one of them changed.
use Rattle.std.proofs.Common.{◌≡◌, ℕ, zero, suc, ◌+◌, List, [], ◌∷◌, set, sym, ap, arith}
use Rattle.std.specs.List.{sum_by}
use Rattle.std.proofs.lemmas.List.Sums.{sum_by-cons}
use mathlib.Core.Option.{some, some-injective, some-ne-none}
use lib.ListN.{get_elem?}

pub sum_by_set : {A : Type 0} (f : A → ℕ) (l : List A) (i : ℕ) (v w : A) → get_elem? l i ≡ some v → sum_by f (set l i w) + f v ≡ sum_by f l + f w
sum_by_set f [] i v w e = absurd (some-ne-none v (sym e))
sum_by_set f (x ∷ xs) zero v w e =
    let same : f x ≡ f v = ap f (some-injective x v e) in
    omega (arith, same, sum_by-cons f w xs, sum_by-cons f x xs)
sum_by_set f (x ∷ xs) (suc i) v w e = omega (arith, sum_by_set f xs i v w e, sum_by-cons f x (set xs i w), sum_by-cons f x xs)
