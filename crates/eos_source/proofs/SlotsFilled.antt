-- Slots of which each is filled that was drawn.
use Rattle.std.proofs.Common.{◌≡◌, ℕ, zero, suc, ◌≤◌, ◌<◌, ◌==◌, cond, Bool, true, false, List, [], ◌∷◌, length, set, get_or, Option, Some, refl, subst, ap, ◌∙◌, arith}
use Rattle.std.proofs.lemmas.Bool.{eqb-true, lt-ltb}
use Rattle.std.proofs.lemmas.List.Sums.{sum_by-cons}
use Rattle.std.specs.Prelude.{All, IsSome}
use Rattle.std.specs.List.{count_by}
use Rattle.eos_source.specs.steps.Slots.{IsFilled, AreFilledAsWell}
use Rattle.eos_source.specs.SeatViews.{AreBelow}

module _ {A : Type 0} where
  pub stay : (slots : List (Option A)) (i : ℕ) (a : A) → AreFilledAsWell slots (set slots i (Some a))
  stay [] i a n h = h
  stay (s ∷ ss) zero a zero h = refl
  stay (s ∷ ss) zero a (suc n) h = h
  stay (s ∷ ss) (suc i) a zero h = h
  stay (s ∷ ss) (suc i) a (suc n) h = stay ss i a n h

  pub is_filled : (slots : List (Option A)) (i : ℕ) (a : A) → IsFilled (set slots i (Some a)) i
  is_filled [] i a = tt
  is_filled (s ∷ ss) zero a = refl
  is_filled (s ∷ ss) (suc i) a = is_filled ss i a

  at_place : (slots : List (Option A)) (k : ℕ) (d : Option A) → k < length slots → IsFilled slots k → IsSome (get_or slots k d)
  at_place [] k d lt h = absurd (omega (arith, lt))
  at_place (s ∷ ss) zero d lt h = h
  at_place (s ∷ ss) (suc k) d lt h = at_place ss k d (omega (arith, lt)) h

-- how often a number stands that passes this test
abbrev times : Bool → ℕ
times b = cond b 1 0

-- what holds of each number of a list holds of one that stands in it
of_member : (P : ℕ → Type 0) (numbers : List ℕ) (x : ℕ) → 1 ≤ count_by (λ y. y == x) numbers → All P numbers → P x
of_member P [] x some all = absurd (omega (arith, some))
of_member P (y ∷ ys) x some all =
    elim (y == x) as (λ b. (y == x) ≡ b → P x) [
      | true ↦ λ e. subst P (eqb-true y x e) (all 0 y (omega arith))
      | false ↦ λ e.
          let none : times (y == x) ≡ 0 = ap times e in
          of_member P ys x (omega (arith, some, none, sum_by-cons (λ z. times (z == x)) y ys)) (λ k d lt. all (suc k) d (omega (arith, lt)))
    ] refl

-- where each number below their count was drawn once, and the slot of each that was drawn is filled, all are filled
pub all_filled : {A : Type 0} (slots : List (Option A)) (numbers : List ℕ) → All (λ n. IsFilled slots n) numbers → AreBelow (length slots) numbers → All IsSome slots
all_filled slots numbers filled below k d lt =
    let once : count_by (λ y. y == k) numbers ≡ 1 = below k ∙ ap times (lt-ltb k (length slots) lt) in
    at_place slots k d lt (of_member (λ n. IsFilled slots n) numbers k (omega (arith, once)) filled)
