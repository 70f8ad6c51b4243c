-- A part of a list whose front is taken.
use Rattle.std.proofs.Common.{◌≡◌, ℕ, ◌+◌, ◌-◌, List, drop, take, slice_range, sym, ap, ◌∙◌, arith, inl, inr}
use Rattle.std.proofs.lemmas.Bool.{cases_lt}
use Rattle.std.proofs.lemmas.List.{drop-take, drop-drop, drop_all, length-take}

pub part-rest : (xs : List ℕ) (a b n : ℕ) → slice_range xs (a + n) b ≡ drop n (slice_range xs a b)
part-rest xs a b n =
    elim (cases_lt b (a + n)) [
      | inl l ↦
          let e : b - (a + n) ≡ 0 = omega arith in
          rw e (sym (drop_all n (take (b - a) (drop a xs)) (omega (arith, length-take (b - a) (drop a xs)))))
      | inr r ↦
          let e : b - a ≡ n + (b - (a + n)) = omega arith in
          sym (ap (λ (k : ℕ). drop n (take k (drop a xs))) e ∙ (drop-take n (b - (a + n)) (drop a xs) ∙ ap (take (b - (a + n))) (drop-drop n a xs)))
    ]
