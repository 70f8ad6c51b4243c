-- Two decisions of one producer id and data epoch are neighbours in the sorted keys.
use Rattle.std.proofs.Common.{◌≡◌, ℕ, suc, ◌<◌, ◌≤◌, ◌+◌, ℤ, pos, List, [], ◌∷◌, ◌++◌, length, Some, refl, sym, subst, ap, ◌∙◌, true, false, Bool, cond, if◌then◌else◌, IsPermutation, IsSorted, arith}
use Rattle.std.specs.Prelude.{slice_get}
use Rattle.std.specs.List.{filter}
use Rattle.std.specs.Ordering.{is_eq, is_lt, ordering_reverse}
use Rattle.std.specs.declared.cmp.Ordering.{Ordering}
use Rattle.std.specs.declared.cmp.Ordering.TheVariants.{Less, Equal, Greater}
use Rattle.std.proofs.lemmas.Cmp.{tied_itself}
use Rattle.std.proofs.lemmas.Option.{slice_get_within, get_or_from_slice_get}
use Rattle.std.proofs.lemmas.List.Sums.{length-filter}
use Rattle.std.proofs.lemmas.List.Sorted.{sorted_far, sum_by-IsPermutation}
use Rattle.std.proofs.lemmas.List.MinMax.{ranks_by}
use Rattle.eos_txnlog.specs.declared.decision.Decision.{Decision}
use Rattle.eos_table.specs.MatchFaults.{deciders, is_of}
use Rattle.eos_table.specs.steps.Keys.{mine, decided, pair_cmp}
use Rattle.eos_table.specs.steps.Neighbours.{pair_at, AreApart}
use Rattle.eos_base.proofs.Decides.{differs}
use Rattle.eos_base.proofs.Exact.{is_tied}
use Rattle.eos_table.proofs.AtomicLaw.{at_two, is_of_true, true_is_of}
use Rattle.eos_table.proofs.KeyExact.{pair_total, pair_exact}
use Rattle.eos_table.proofs.KeyMembers.{pair_of}

abbrev is_key : ℤ × ℤ → ℤ × ℤ → Bool
is_key k y = is_eq (pair_cmp y k)

abbrev pair_made : ℤ → ℤ → ℤ × ℤ
pair_made a b = (a, b)

key_itself : (k : ℤ × ℤ) → is_key k k ≡ true
key_itself k = let e = tied_itself pair_total k in rw e refl

key_is : (k y : ℤ × ℤ) → is_key k y ≡ true → y ≡ k
key_is k y e = pair_exact y k (is_tied (pair_cmp y k) e)

-- ---- as many keys as decisions

same_test : (d : Decision) (p e : ℤ) → is_key (p, e) (pair_of d) ≡ is_of p e d
same_test d p e = go (is_of p e d) (is_key (p, e) (pair_of d)) refl refl
  where
    go : (a b : Bool) → is_of p e d ≡ a → is_key (p, e) (pair_of d) ≡ b → b ≡ a
    go true true q r = refl
    go false false q r = refl
    go false true q r = let s = key_is (p, e) (pair_of d) r in absurd (differs _ q (is_of_true d p e (ap (λ z. z.0) s) (ap (λ z. z.1) s)))
    go true false q r =
        let t = true_is_of d p e q in
        let s : pair_of d ≡ pair_made p e = ap (λ z. pair_made z d.epoch) t.0 ∙ ap (λ z. pair_made p z) t.1 in
        absurd (differs _ r (subst (λ z. is_key (p, e) z ≡ true) (sym s) (key_itself (p, e))))

count_decided : (n s : ℕ) (ds : List Decision) (p e : ℤ) → mine n s p ≡ true → length (filter (is_key (p, e)) (decided n s ds)) ≡ length (deciders ds p e)
count_decided n s [] p e m = refl
count_decided n s (d ∷ ds) p e m = go (mine n s d.producer) (is_of p e d) refl refl (count_decided n s ds p e m)
  where
    go : (a b : Bool) → mine n s d.producer ≡ a → is_of p e d ≡ b → length (filter (is_key (p, e)) (decided n s ds)) ≡ length (deciders ds p e)
        → length (filter (is_key (p, e)) ((if a then pair_of d ∷ [] else []) ++ decided n s ds)) ≡ length (cond b (d ∷ deciders ds p e) (deciders ds p e))
    go false false q r ih = ih
    go false true q r ih = let t = true_is_of d p e r in absurd (differs _ q (subst (λ z. mine n s z ≡ true) (sym t.0) m))
    go true false q r ih = let t : is_key (p, e) (pair_of d) ≡ false = same_test d p e ∙ r in rw t ih
    go true true q r ih = let t : is_key (p, e) (pair_of d) ≡ true = same_test d p e ∙ r in rw t (ap suc ih)

same_count : {X : Type 0} (p : X → Bool) (xs ys : List X) → IsPermutation xs ys → length (filter p ys) ≡ length (filter p xs)
same_count {X} p xs ys h = length-filter p ys ∙ (sum_by-IsPermutation (λ (x : X). cond (p x) 1 0) xs ys h ∙ sym (length-filter p xs))

-- ---- neighbours

not_less : (x y : ℤ × ℤ) → is_lt (pair_cmp x y) ≡ false → is_lt (pair_cmp y x) ≡ false → x ≡ y
not_less x y a b = pair_exact x y (go (pair_cmp x y) (pair_cmp y x) (pair_total.antisymm y x) a b)
  where
    go : (p q : Ordering) → q ≡ ordering_reverse p → is_lt p ≡ false → is_lt q ≡ false → p ≡ Equal
    go Equal q e a b = refl
    go Less q e a b = absurd cc
    go Greater q e a b = let f = subst (λ z. is_lt z ≡ false) e b in absurd cc

module _ (n s : ℕ) (ds : List Decision) (D : List (ℤ × ℤ)) (same : IsPermutation (decided n s ds) D) (up : IsSorted pair_cmp D) where
  rises : (i j : ℕ) → i ≤ j → j < length D → is_lt (pair_cmp (pair_at D j) (pair_at D i)) ≡ false
  rises i j le h = sorted_far (λ x y. is_lt (pair_cmp x y)) (ranks_by pair_total (λ (x : ℤ × ℤ). x)) D up i j (pos 0, pos 0) le h

  -- between two that are equal all are
  beside : (i j : ℕ) → i < j → j < length D → {x : ℤ × ℤ} → pair_at D i ≡ x → pair_at D j ≡ x → pair_at D (i + 1) ≡ pair_at D i
  beside i j lt h p q =
      not_less (pair_at D (i + 1)) (pair_at D i) (rises i (i + 1) (omega arith) (omega arith))
      (subst (λ z. is_lt (pair_cmp z (pair_at D (i + 1))) ≡ false) (q ∙ sym p) (rises (i + 1) j (omega arith) h))

  -- where no two are equal, none was decided twice
  pub never_twice : AreApart D → (p e : ℤ) → mine n s p ≡ true → 2 ≤ length (deciders ds p e) → ⊥
  never_twice apart p e m st =
      let x = pair_made p e in
      let count : length (filter (is_key x) D) ≡ length (deciders ds p e) = same_count (is_key x) (decided n s ds) D same ∙ count_decided n s ds p e m in
      let two : 2 ≤ length (filter (is_key x) D) = omega (arith, st, count) in
      let r = at_two (is_key x) D two in
      go r.0 r.1 r.4 (place r.0 r.2 r.5) (place r.1 r.3 r.6) (key_is x r.2 r.7) (key_is x r.3 r.8)
    where
      place : (j : ℕ) (d : ℤ × ℤ) → slice_get D j ≡ Some d → (j < length D) × (pair_at D j ≡ d)
      place j d q = (slice_get_within D j d q, get_or_from_slice_get D j d (pos 0, pos 0) q)

      go : (i j : ℕ) → i < j → {d : ℤ × ℤ} → {c : ℤ × ℤ} → (i < length D) × (pair_at D i ≡ d) → (j < length D) × (pair_at D j ≡ c) → d ≡ pair_made p e → c ≡ pair_made p e → ⊥
      go i j lt a b u v =
          let inside = b.0 in
          let next : i + 1 < length D = omega (arith, inside) in
          apart i next (sym (beside i j lt b.0 (a.1 ∙ u) (b.1 ∙ v)))
