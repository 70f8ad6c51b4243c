-- Segments under rising names: where a base is among them, and what one more makes of them.
use Rattle.std.proofs.Common.{◌≡◌, ℕ, zero, suc, ◌+◌, ◌<◌, ◌≤◌, ℤ, ◌<ℤ◌, List, [], ◌∷◌, true, false, Result, Ok, Err, OnOk, IfErr, int_lt, length, get_or, insert, refl, ap, sym, ◌∙◌, subst, arith}
use Rattle.std.proofs.Math.Bool.{or-true}
use Rattle.std.proofs.lemmas.Bool.Decides.{Decides-int_eq}
use Rattle.std.proofs.lemmas.Cmp.{int_cmp_total, int_ranked}
use Rattle.std.proofs.lemmas.Int.{ints}
use Rattle.std.proofs.lemmas.List.Sorted.{searchable_from_sorted}
use Rattle.std.proofs.lemmas.Map.Keys.{Less-from_sorted}
use Rattle.std.specs.List.Sorted.{IsSortedBy, IsSearchInRange, IsBinarySearchResult}
use Rattle.std.specs.Ordering.{int_cmp, int_eq, is_lt, on, ordering_reverse}
use Rattle.std.specs.declared.cmp.Ordering.TheVariants.{Less}
use Rattle.eos_evidence.specs.declared.segment.Segment.{Segment}
use Rattle.eos_evidence.specs.Evidence.{IsRising, has_base, insert_segment}
use Rattle.eos_evidence.specs.steps.SegmentIndexes.{IsIndexFor}

bases_ascend : (xs : List Segment) → IsRising xs → IsSortedBy (λ a b. is_lt (int_cmp a.base b.base)) xs
bases_ascend xs up k d low high =
    let less : int_cmp (get_or xs k d).base (get_or xs (k + 1) d).base ≡ Less = Less-from_sorted (on (λ s. s.base) int_cmp) xs k (k + 1) d up (omega arith) high in
    ap is_lt (int_cmp_total.antisymm (get_or xs (k + 1) d).base (get_or xs k d).base ∙ ap ordering_reverse less)

-- the bases below the place are less than this one, and those from it on are greater
pub record IsGap (base : ℤ) (xs : List Segment) (at : ℕ) : Type 0 where
  pub within : at ≤ length xs
  pub below : (k : ℕ) (d : Segment) → k < at → (get_or xs k d).base <ℤ base
  pub above : (k : ℕ) (d : Segment) → at ≤ k → k < length xs → base <ℤ (get_or xs k d).base

gap_later : (base : ℤ) (x : Segment) (xs : List Segment) (k : ℕ) → IsGap base (x ∷ xs) (suc k) → IsGap base xs k
gap_later base x xs k gap = record {
  within = omega (arith, gap.within);
  below = λ i d lt. gap.below (suc i) d (omega arith);
  above = λ i d le lt. gap.above (suc i) d (omega arith) (omega arith);
}

gap_first : (base : ℤ) (x : Segment) (xs : List Segment) → IsGap base (x ∷ xs) 0 → IsGap base xs 0
gap_first base x xs gap = record {
  within = omega arith;
  below = λ i d lt. absurd (omega arith);
  above = λ i d le lt. gap.above (suc i) d (omega arith) (omega arith);
}

differs : (a b : ℤ) → a <ℤ b → int_eq a b ≡ false
differs a b less = grind (arith, ints, less)

differs_above : (a b : ℤ) → b <ℤ a → int_eq a b ≡ false
differs_above a b less = grind (arith, ints, less)

absent : (base : ℤ) (xs : List Segment) (at : ℕ) → IsGap base xs at → has_base base xs ≡ false
absent base [] at gap = refl
absent base (x ∷ xs) zero gap = rw (differs_above x.base base (gap.above 0 x (omega arith) (omega arith))) (absent base xs zero (gap_first base x xs gap))
absent base (x ∷ xs) (suc k) gap = rw (differs x.base base (gap.below 0 x (omega arith))) (absent base xs k (gap_later base x xs k gap))

inserted : (s : Segment) (xs : List Segment) (at : ℕ) → IsGap s.base xs at → insert xs at s ≡ insert_segment s xs
unfolding insert_segment
inserted s [] zero gap = refl
inserted s [] (suc k) gap = absurd (omega (arith, gap.within))
inserted s (x ∷ xs) zero gap =
    let less : int_lt s.base x.base ≡ true = grind (arith, ints, gap.above 0 x (omega arith) (omega arith)) in
    rw less refl
inserted s (x ∷ xs) (suc k) gap =
    let more : int_lt s.base x.base ≡ false = grind (arith, ints, gap.below 0 x (omega arith)) in
    rw more (ap (λ l. x ∷ l) (inserted s xs k (gap_later s.base x xs k gap)))

there : (base : ℤ) (xs : List Segment) (at : ℕ) → at < length xs → ((d : Segment) → (get_or xs at d).base ≡ base) → has_base base xs ≡ true
there base [] at within same = absurd (omega (arith, within))
there base (x ∷ xs) zero within same = rw ((Decides-int_eq x.base base).1 (same x)) refl
there base (x ∷ xs) (suc k) within same = rw (there base xs k (omega arith) (λ d. same d)) (or-true (int_eq x.base base))

-- a binary search finds the base, or the place for it
pub searched : (xs : List Segment) → IsRising xs → (base : ℤ) (r : Result ℕ ℕ) → IsSearchInRange r (length xs) → IsBinarySearchResult (λ s. int_cmp s.base base) xs r
    → OnOk r (has_base base xs ≡ true) × IfErr r (IsIndexFor base xs)
searched xs up base (Ok at) within equal = (there base xs at within (λ d. int_ranked _ base _ (sym (equal d))), tt)
searched xs up base (Err at) within parted =
    let parts = parted (searchable_from_sorted int_cmp_total (λ s. s.base) xs base (bases_ascend xs up)) in
    let gap : IsGap base xs at = record {
      within = within;
      below = λ k d lt. int_ranked _ base _ (sym (parts.0 k d (omega arith) lt));
      above = λ k d le lt. int_ranked _ base _ (sym (parts.1 k d le lt));
    } in
    (tt, record { within = within; absent = absent base xs at gap; inserts = λ s same. inserted s xs at (subst (λ b. IsGap b xs at) (sym same) gap) })
