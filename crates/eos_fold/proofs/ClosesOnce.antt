-- Closes in ascending order, each once.
use Rattle.std.proofs.Common.{◌≡◌, ℕ, zero, suc, ◌+◌, ◌<◌, ◌&&◌, true, false, Bool, List, [], ◌∷◌, length, get_or, refl, sym, ap, subst, ◌∙◌, arith, inl, inr, IsPermutation, IsSorted, ℤ}
use Rattle.std.specs.List.{Contains, dedup}
use Rattle.std.specs.List.Sorted.{IsStrictlySortedBy}
use Rattle.std.specs.Cmp.{IsTotalOrder, IsEquivalence}
use Rattle.std.specs.Ordering.{nat_cmp, int_cmp, is_eq, is_lt, eq_by_cmp, ordering_then, ordering_reverse}
use Rattle.std.specs.declared.cmp.Ordering.{Ordering}
use Rattle.std.specs.declared.cmp.Ordering.TheVariants.{Less, Equal, Greater}
use Rattle.std.proofs.lemmas.Cmp.{nat_cmp_total, int_cmp_total, on_total, then_total, tied_itself}
use Rattle.std.proofs.lemmas.List.Kept.{Contains-dedup, Contains-from_dedup, IsStrictlySortedBy-dedup}
use Rattle.std.proofs.lemmas.List.Sorted.{Contains-permutation, IsPermutation-sym}
use Rattle.std.proofs.lemmas.Map.Keys.{Less-from_sorted}
use Rattle.eos_base.specs.Members.{Has}
use Rattle.eos_base.specs.steps.Least.{IsExact}
use Rattle.eos_base.proofs.Exact.{then_parts, int_exact, nat_exact}
use Rattle.eos_batch.specs.declared.marker.Kind.{Kind}
use Rattle.eos_batch.specs.declared.marker.Kind.TheVariants.{Commit, Abort}
use Rattle.eos_batch.specs.contracts.marker.KindOrd.TheImpl.{ghosts as kind_order}
use Rattle.eos_batch.specs.contracts.marker.KindPartialEq.TheImpl.{ghosts as kind_test}
use Rattle.eos_fold.specs.declared.close.Close.{Close}
use Rattle.eos_fold.specs.Closes.{rank_of, close_cmp}
use Rattle.eos_fold.specs.contracts.close.CloseOrd.TheImpl.{ghosts as order}
use Rattle.eos_fold.specs.contracts.close.ClosePartialEq.TheImpl.{ghosts as test}
use Rattle.eos_fold.specs.Parts.{Ascends, AreCloses}

-- ---- the order

pub close_total : IsTotalOrder close_cmp
close_total = then_total (on_total (λ c. c.producer) int_cmp_total) (then_total (on_total (λ c. c.epoch) int_cmp_total) (then_total (on_total (λ c. c.marker_epoch) int_cmp_total) (on_total (λ c. rank_of c.kind) nat_cmp_total)))

kind_exact : (a b : Kind) → rank_of a ≡ rank_of b → a ≡ b
kind_exact Commit Commit e = refl
kind_exact Abort Abort e = refl
kind_exact Commit Abort e = absurd (omega (arith, e))
kind_exact Abort Commit e = absurd (omega (arith, e))

abbrev close_from : ℤ → ℤ → ℤ → Kind → Close
close_from p e m k = record { producer = p; epoch = e; marker_epoch = m; kind = k }

pub close_exact : IsExact close_cmp
close_exact x y e =
    let r = then_parts (int_cmp x.producer y.producer) _ e in
    let s = then_parts (int_cmp x.epoch y.epoch) _ r.1 in
    let t = then_parts (int_cmp x.marker_epoch y.marker_epoch) (nat_cmp (rank_of x.kind) (rank_of y.kind)) s.1 in
    ap (λ p. close_from p x.epoch x.marker_epoch x.kind) (int_exact x.producer y.producer r.0)
    ∙ (ap (λ z. close_from y.producer z x.marker_epoch x.kind) (int_exact x.epoch y.epoch s.0)
    ∙ (ap (λ z. close_from y.producer y.epoch z x.kind) (int_exact x.marker_epoch y.marker_epoch t.0)
    ∙ ap (λ z. close_from y.producer y.epoch y.marker_epoch z) (kind_exact x.kind y.kind (nat_exact (rank_of x.kind) (rank_of y.kind) t.1))))

-- ---- members

contains_has : {X : Type 0} (xs : List X) (x : X) → Contains xs x → Has xs x
contains_has [] x h = absurd (omega (arith, h.1))
contains_has {X} (y ∷ ys) x h = go (contains_has ys x) h.0 h.1 h.2
  where
    go : (Contains ys x → Has ys x) → (k : ℕ) → k < length (y ∷ ys) → get_or (y ∷ ys) k x ≡ x → Has (y ∷ ys) x
    go more zero l e = inl e
    go more (suc k) l e = inr (more (k, omega (arith, l), e))

has_contains : {X : Type 0} (xs : List X) (x : X) → Has xs x → Contains xs x
has_contains [] x h = absurd h
has_contains (y ∷ ys) x (inl e) = (0, omega arith, e)
has_contains (y ∷ ys) x (inr h) = let c = has_contains ys x h in (suc c.0, (let l = c.1 in omega (arith, l)), c.2)

-- ---- sorted, and each once

module _ (cmp : Close → Close → Ordering) (alike : (a b : Close) → cmp a b ≡ close_cmp a b) (eq : Close → Close → Bool) (ties : (a b : Close) → eq a b ≡ eq_by_cmp close_cmp a b) where
  sorted : (xs : List Close) → IsSorted cmp xs → IsSorted close_cmp xs
  sorted xs up = λ k d lo hi. subst (λ o. is_lt o ≡ false) (alike (get_or xs (k + 1) d) (get_or xs k d)) (up k d lo hi)

  tied : (x y : Close) → is_eq (close_cmp x y) ≡ true → close_cmp x y ≡ Equal
  tied x y e = go (close_cmp x y) e
    where
      go : (o : Ordering) → is_eq o ≡ true → o ≡ Equal
      go Equal e = refl
      go Less e = absurd cc
      go Greater e = absurd cc

  same : (x y : Close) → eq x y ≡ true → x ≡ y
  same x y e = close_exact x y (tied x y (sym (ties x y) ∙ e))

  ascends : (xs : List Close) → IsStrictlySortedBy close_cmp xs → Ascends xs
  ascends xs up = λ i j d lt hi. ap is_lt (Less-from_sorted close_cmp xs i j d up lt hi)

  pub each_once : IsEquivalence eq → (all mid closes : List Close) → IsPermutation all mid → IsSorted cmp mid → closes ≡ dedup eq mid → AreCloses all closes
  each_once laws all mid closes p up e = subst (λ (cs : List Close). AreCloses all cs) (sym e) (record {
    members = λ c. (
      λ h. contains_has all c (Contains-permutation mid all c (IsPermutation-sym all mid p) (Contains-from_dedup eq mid c (has_contains (dedup eq mid) c h))),
      λ h. contains_has (dedup eq mid) c (Contains-dedup laws same mid c (Contains-permutation all mid c p (has_contains all c h))),
    );
    ascend = ascends (dedup eq mid) (IsStrictlySortedBy-dedup close_total ties mid (sorted mid up));
  })

-- ---- the derived tests of the type

kind_alike : (a b : Kind) → kind_order.cmp a b ≡ nat_cmp (rank_of a) (rank_of b)
kind_alike Commit Commit = refl
kind_alike Commit Abort = refl
kind_alike Abort Commit = refl
kind_alike Abort Abort = refl

alike : (a b : Close) → order.cmp a b ≡ close_cmp a b
alike a b = ap (λ (o : Ordering). ordering_then (int_cmp a.producer b.producer) (ordering_then (int_cmp a.epoch b.epoch) (ordering_then (int_cmp a.marker_epoch b.marker_epoch) o))) (kind_alike a.kind b.kind)

is_eq_then : (a b : Ordering) → (is_eq a && is_eq b) ≡ is_eq (ordering_then a b)
is_eq_then Less b = refl
is_eq_then Equal b = refl
is_eq_then Greater b = refl

kind_ties : (a b : Kind) → kind_test.eq a b ≡ is_eq (nat_cmp (rank_of a) (rank_of b))
kind_ties Commit Commit = refl
kind_ties Commit Abort = refl
kind_ties Abort Commit = refl
kind_ties Abort Abort = refl

ties : (a b : Close) → test.eq a b ≡ eq_by_cmp close_cmp a b
ties a b =
    let p = int_cmp a.producer b.producer in
    let e = int_cmp a.epoch b.epoch in
    let m = int_cmp a.marker_epoch b.marker_epoch in
    let k = nat_cmp (rank_of a.kind) (rank_of b.kind) in
    ap (λ (x : Bool). is_eq p && (is_eq e && (is_eq m && x))) (kind_ties a.kind b.kind)
    ∙ (ap (λ (x : Bool). is_eq p && (is_eq e && x)) (is_eq_then m k) ∙ (ap (λ (x : Bool). is_eq p && x) (is_eq_then e (ordering_then m k)) ∙ is_eq_then p (ordering_then e (ordering_then m k))))

is_eq_back : (o : Ordering) → is_eq (ordering_reverse o) ≡ is_eq o
is_eq_back Less = refl
is_eq_back Equal = refl
is_eq_back Greater = refl

laws : IsEquivalence test.eq
laws = record {
  refl = λ x. ties x x ∙ ap is_eq (tied_itself close_total x);
  symm = λ x y. ties x y ∙ (ap is_eq (close_total.antisymm x y) ∙ (is_eq_back (close_cmp y x) ∙ sym (ties y x)));
  congr = λ x y z e. ap (λ (w : Close). test.eq w z) (same order.cmp alike test.eq ties x y e);
}

pub once_is : (all mid closes : List Close) → IsPermutation all mid → IsSorted order.cmp mid → closes ≡ dedup test.eq mid → AreCloses all closes
once_is = each_once order.cmp alike test.eq ties laws
