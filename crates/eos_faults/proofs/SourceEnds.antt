-- Where the claims and inputs of sources up to one end, in their order.
use Rattle.std.proofs.Common.{◌≡◌, ◌∙◌, ◌⊎◌, ◌<◌, ◌≤◌, ◌+◌, ℕ, zero, suc, arith, List, [], ◌∷◌, length, Option, Some, None, refl, sym, ap, subst, inl, inr, true, false, IsSorted}
use Rattle.std.specs.Prelude.{nat_lt, slice_get, slice_index_or, get_or}
use Rattle.std.specs.Ordering.{is_lt, is_gt, ordering_reverse, ordering_then}
use Rattle.std.specs.declared.cmp.Ordering.{Ordering}
use Rattle.std.specs.declared.cmp.Ordering.TheVariants.{Less, Equal, Greater}
use Rattle.std.proofs.lemmas.Bool.{cases_lt, lt-ltb, ltb-true}
use Rattle.std.proofs.lemmas.Cmp.{tied_itself}
use Rattle.std.proofs.lemmas.Option.{slice_get_within, slice_get_read, slice_get_past, slice_get-get_or, get_or_from_slice_get}
use Rattle.std.proofs.lemmas.List.Sorted.{sorted_far}
use Rattle.std.proofs.lemmas.List.MinMax.{ranks_by}
use Rattle.eos_base.specs.Least.{UpTo}
use Rattle.eos_claims.specs.declared.place.Place.{Place}
use Rattle.eos_claims.specs.Candidates.{claim_cmp, counted}
use Rattle.eos_claims.specs.Faults.{place_cmp}
use Rattle.eos_claims.proofs.FaultOrder.{place_exact, place_total}
use Rattle.eos_faults.specs.declared.lent.LentPlace.{LentPlace}
use Rattle.eos_faults.specs.declared.lent.VisibleClaim.{VisibleClaim}
use Rattle.eos_faults.specs.contracts.lent.LentPlaceOrd.TheImpl.Laws.{total-law as place-total}
use Rattle.eos_faults.specs.steps.Plain.{claim_at, place_at}
use Rattle.eos_faults.specs.steps.Tables.{by_claim}
use Rattle.eos_faults.specs.steps.BySource.{AllFrom, IsEndOf, IsNext, by_lent, itself, source_of}
use Rattle.eos_faults.proofs.SortedClaims.{rise_in_order}

-- of two places that aren't in falling order, where the first is behind this one, so is the second
pub behind : (s p q : Place) → place_cmp s p ≡ Less → is_lt (place_cmp q p) ≡ false → place_cmp s q ≡ Less
behind s p q less up = go (place_cmp q p) refl up
  where
    go : (o : Ordering) → place_cmp q p ≡ o → is_lt o ≡ false → place_cmp s q ≡ Less
    go Less e u = absurd cc
    go Equal e u = subst (λ z. place_cmp s z ≡ Less) (sym (place_exact q p e)) less
    go Greater e u = let back : place_cmp p q ≡ Less = place_total.antisymm p q ∙ ap ordering_reverse e in place_total.trans s p q less back

past : (p s : Place) → is_gt (place_cmp p s) ≡ true → place_cmp s p ≡ Less
past p s e = place_total.antisymm s p ∙ ap ordering_reverse (greater (place_cmp p s) e)
  where
    greater : (o : Ordering) → is_gt o ≡ true → o ≡ Greater
    greater Less e = absurd cc
    greater Equal e = absurd cc
    greater Greater e = refl

-- ---- an item at a place

pub no_item : {X : Type 0} (xs : List X) (k : ℕ) → false ≡ nat_lt k (length xs) → slice_get xs k ≡ None
no_item xs k over = elim (cases_lt k (length xs)) [
  | inl lt ↦ let t = lt-ltb k (length xs) lt in absurd (let b : false ≡ true = over ∙ t in cc)
  | inr ge ↦ slice_get_past xs k ge
]

pub an_item : {X : Type 0} (xs : List X) (k : ℕ) (x : X) → true ≡ nat_lt k (length xs) → x ≡ get_or xs k x → slice_get xs k ≡ Some x
an_item xs k x inside is = slice_get_read xs (length xs) k x refl (ltb-true k (length xs) (sym inside)) is

-- ---- the end

abbrev pub Rises : {X : Type 0} → (X → LentPlace) → List X → Type 0
Rises {X} of xs = (i j : ℕ) (x y : X) → i ≤ j → slice_get xs i ≡ Some x → slice_get xs j ≡ Some y → is_lt (place_cmp (place_at (of y)) (place_at (of x))) ≡ false

module _ {X : Type 0} (of : X → LentPlace) (xs : List X) (s : LentPlace) where
  -- one item further
  pub up_to_more : (from to : ℕ) (x : X) → slice_get xs to ≡ Some x → is_gt (place_cmp (place_at (of x)) (place_at s)) ≡ false
      → AllFrom (λ y. UpTo place_cmp (place_at (of y)) (place_at s)) xs from to → AllFrom (λ y. UpTo place_cmp (place_at (of y)) (place_at s)) xs from (to + 1)
  up_to_more from to x at up so_far k y le lt is = elim (cases_lt k to) [
    | inl l ↦ so_far k y le l is
    | inr ge ↦
        let here : k ≡ to = omega (arith, lt, ge) in
        let same : Some y ≡ Some x = sym is ∙ (ap (slice_get xs) here ∙ at) in
        subst (λ z. UpTo place_cmp (place_at (of z)) (place_at s)) (sym (inside y x same)) up
  ]
    where
      inside : (y x : X) → Some y ≡ Some x → y ≡ x
      inside y x e = cc

  pub ends_here : Rises of xs → (from to : ℕ) (x : X) → from ≤ to → slice_get xs to ≡ Some x → is_gt (place_cmp (place_at (of x)) (place_at s)) ≡ true
      → AllFrom (λ y. UpTo place_cmp (place_at (of y)) (place_at s)) xs from to → IsEndOf of xs from s to
  ends_here far from to x further at gt so_far = record {
    further = further;
    within = let lt = slice_get_within xs to x at in omega (arith, lt);
    up_to = so_far;
    beyond = λ k y le lt is. behind (place_at s) (place_at (of x)) (place_at (of y)) (past (place_at (of x)) (place_at s) gt) (far to k x y le at is);
  }

  pub ends_at_last : (from to : ℕ) → from ≤ to → to ≤ length xs → slice_get xs to ≡ None → AllFrom (λ y. UpTo place_cmp (place_at (of y)) (place_at s)) xs from to → IsEndOf of xs from s to
  ends_at_last from to further within none so_far = record {
    further = further;
    within = within;
    up_to = so_far;
    beyond = λ k y le lt is. absurd (no_more k y le lt);
  }
    where
      no_more : (k : ℕ) (y : X) → to ≤ k → k < length xs → ⊥
      no_more k y le lt = let bad : None ≡ Some (get_or xs to y) = sym none ∙ slice_get-get_or xs to y (omega (arith, le, lt)) in cc

-- where the source is that of an item, the end is behind it
further_on : {X : Type 0} (of : X → LentPlace) (xs : List X) (from to : ℕ) (s : LentPlace) (x : X) → slice_get xs from ≡ Some x → s ≡ of x → IsEndOf of xs from s to → from < to
further_on of xs from to s x at is end = elim (cases_lt from to) [
  | inl lt ↦ lt
  | inr ge ↦
      let less : place_cmp (place_at s) (place_at (of x)) ≡ Less = end.beyond from x ge (slice_get_within xs from x at) at in
      let tied : place_cmp (place_at s) (place_at (of x)) ≡ Equal = subst (λ z. place_cmp (place_at s) (place_at z) ≡ Equal) is (tied_itself place_total (place_at s)) in
      let bad : Less ≡ Equal = sym less ∙ tied in
      absurd cc
]

pub progress : (cs : List VisibleClaim) (is : List LentPlace) (j k p q : ℕ) (s : LentPlace) → IsNext (slice_get cs j) (slice_get is k) (Some s) → IsEndOf source_of cs j s p → IsEndOf itself is k s q → (j < p) ⊎ (k < q)
progress cs is j k p q s next claims inputs = go (slice_get cs j) (slice_get is k) refl refl next
  where
    inside : (x y : LentPlace) → Some x ≡ Some y → x ≡ y
    inside x y e = cc

    go : (c : Option VisibleClaim) (i : Option LentPlace) → slice_get cs j ≡ c → slice_get is k ≡ i → IsNext c i (Some s) → (j < p) ⊎ (k < q)
    go None None e f h = absurd cc
    go (Some c) None e f h = inl (further_on source_of cs j p s c e (inside s c.source h) claims)
    go None (Some i) e f h = inr (further_on itself is k q s i f (inside s i h) inputs)
    go (Some c) (Some i) e f (inl h) = inl (further_on source_of cs j p s c e (inside s c.source h.0) claims)
    go (Some c) (Some i) e f (inr h) = inr (further_on itself is k q s i f (inside s i h.0) inputs)

-- where there is no next source, both are passed
pub all_passed : (cs : List VisibleClaim) (is : List LentPlace) (j k : ℕ) → j ≤ length cs → k ≤ length is → IsNext (slice_get cs j) (slice_get is k) None → (j ≡ length cs) × (k ≡ length is)
all_passed cs is j k within inside next = go (slice_get cs j) (slice_get is k) refl refl next
  where
    at_end : {X : Type 0} (xs : List X) (n : ℕ) → n ≤ length xs → slice_get xs n ≡ None → n ≡ length xs
    at_end xs n le none = elim (cases_lt n (length xs)) [
      | inl lt ↦ absurd (some_there xs n lt none)
      | inr ge ↦ omega (arith, le, ge)
    ]
      where
        some_there : {X : Type 0} (xs : List X) (n : ℕ) → n < length xs → slice_get xs n ≡ None → ⊥
        some_there [] n lt e = omega (arith, lt)
        some_there (x ∷ xs) zero lt e = cc
        some_there (x ∷ xs) (suc n) lt e = some_there xs n (omega (arith, lt)) e

    go : (c : Option VisibleClaim) (i : Option LentPlace) → slice_get cs j ≡ c → slice_get is k ≡ i → IsNext c i None → (j ≡ length cs) × (k ≡ length is)
    go None None e f h = (at_end cs j within e, at_end is k inside f)
    go (Some c) None e f h = absurd cc
    go None (Some i) e f h = absurd cc
    go (Some c) (Some i) e f (inl h) = let none = h.0 in absurd cc
    go (Some c) (Some i) e f (inr h) = let none = h.0 in absurd cc

-- ---- in their order

pub claims_rise : (cs : List VisibleClaim) → IsSorted by_claim cs → Rises source_of cs
claims_rise cs up i j x y le at there = source_up (rise_in_order cs up i j x y le at there)
  where
    not_less : (o p q : Ordering) → q ≡ ordering_reverse o → is_gt (ordering_then o p) ≡ false → is_lt q ≡ false
    not_less Less p q e u = rw e refl
    not_less Equal p q e u = rw e refl
    not_less Greater p q e u = absurd cc

    source_up : UpTo claim_cmp (counted (claim_at x)) (counted (claim_at y)) → is_lt (place_cmp (place_at y.source) (place_at x.source)) ≡ false
    source_up u = not_less (place_cmp (place_at x.source) (place_at y.source)) _ (place_cmp (place_at y.source) (place_at x.source)) (place_total.antisymm (place_at y.source) (place_at x.source)) u

pub inputs_rise : (is : List LentPlace) → IsSorted by_lent is → Rises itself is
inputs_rise is up i j x y le at there =
    subst (λ z. is_lt (by_lent z x) ≡ false) (get_or_from_slice_get is j y x there)
    (subst (λ z. is_lt (by_lent (slice_index_or is j x) z) ≡ false) (get_or_from_slice_get is i x x at)
    (sorted_far (λ c d. is_lt (by_lent c d)) (ranks_by place-total (λ (c : LentPlace). c)) is up i j x le (slice_get_within is j y there)))
