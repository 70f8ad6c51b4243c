-- The first claim of a source, the first of a source and a number, and the numbers that are there, among the claims of that source in order.
use Rattle.std.proofs.Common.{◌≡◌, ◌≢◌, ◌≤◌, ◌<◌, ◌+◌, ℕ, zero, suc, List, [], ◌∷◌, Option, Some, None, refl, sym, subst, ap, ◌∙◌, inl, inr, true, false, Bool, ◌&&◌, arith, IsSorted, MatchOption}
use Rattle.std.specs.Prelude.{slice_get, slice_index_or, is_some}
use Rattle.std.specs.Ordering.{nat_cmp, is_eq, is_lt, is_gt, ordering_then, ordering_reverse}
use Rattle.std.specs.Cmp.{IsTotalOrder}
use Rattle.std.specs.declared.cmp.Ordering.{Ordering}
use Rattle.std.specs.declared.cmp.Ordering.TheVariants.{Less, Equal, Greater}
use Rattle.std.proofs.lemmas.Bool.{cases_lt}
use Rattle.std.proofs.lemmas.Option.{slice_get_within, get_or_from_slice_get}
use Rattle.std.proofs.lemmas.List.Sorted.{sorted_far}
use Rattle.std.proofs.lemmas.List.MinMax.{ranks_by}
use Rattle.eos_base.specs.Members.{Has}
use Rattle.eos_base.specs.Least.{UpTo}
use Rattle.eos_base.proofs.Exact.{then_parts}
use Rattle.eos_base.proofs.Membership.{map_has}
use Rattle.eos_claims.specs.declared.place.Place.{Place}
use Rattle.eos_claims.specs.Outputs.{PlacedClaim, Application}
use Rattle.eos_claims.specs.Faults.{place_cmp, number_cmp}
use Rattle.eos_claims.specs.Candidates.{AreApart, claim_cmp, counted, names}
use Rattle.eos_claims.proofs.ClaimOrder.{in_run, outputs_rise, same_number, same_place_true, true_same_place}
use Rattle.eos_claims.proofs.FaultOrder.{claim_total, place_exact, number_total}
use Rattle.eos_commits.proofs.NameSearch.{get_has}
use Rattle.eos_faults.specs.declared.lent.VisibleClaim.{VisibleClaim}
use Rattle.eos_faults.specs.contracts.lent.VisibleClaimOrd.TheImpl.Laws.{total-law as sorted-total}
use Rattle.eos_faults.specs.steps.OutputFaultsGathered.{least_where, first_of, is_numbered, first_at, is_there}
use Rattle.eos_faults.specs.steps.Plain.{claim_at, place_at}
use Rattle.eos_faults.specs.steps.SourceClaims.{AreClaimsOf, DoNumbersRise, DoRise, HasNumber, IsFirstSoFar, IsNextFirst}
use Rattle.eos_faults.specs.steps.Tables.{by_claim}
use Rattle.eos_faults.proofs.FirstClaims.{IsLeastWhere, NoneWhere, least_is, by_least, neither_greater, numbered_is, is_numbered_by, at_cmp, at_total}

-- ---- members by place

pub has_get : {X : Type 0} (xs : List X) (x : X) → Has xs x → (k : ℕ) × (slice_get xs k ≡ Some x)
has_get [] x h = absurd h
has_get (y ∷ ys) x (inl e) = (zero, ap Some e)
has_get (y ∷ ys) x (inr h) = let r = has_get ys x h in (suc r.0, r.1)

-- ---- the order of claims

-- claims are ordered by source, number, place and more
parts_of : (c d : VisibleClaim) → (r : Ordering) × (by_claim c d
    ≡ ordering_then (place_cmp (place_at c.source) (place_at d.source)) (ordering_then (nat_cmp c.output d.output) (ordering_then (place_cmp (place_at c.at) (place_at d.at)) r)))
parts_of c d = (_, refl)

front_of : (p q r s : Ordering) → is_lt (ordering_then p (ordering_then q (ordering_then r s))) ≡ false → is_lt (ordering_then p (ordering_then q r)) ≡ false
front_of Less q r s e = e
front_of Greater q r s e = refl
front_of Equal Less r s e = e
front_of Equal Greater r s e = refl
front_of Equal Equal Less s e = e
front_of Equal Equal Equal s e = refl
front_of Equal Equal Greater s e = refl

turned : (o p : Ordering) → p ≡ ordering_reverse o → is_lt o ≡ false → is_gt p ≡ false
turned Less p e f = absurd cc
turned Equal p e f = rw e refl
turned Greater p e f = rw e refl

not_less : (c d : VisibleClaim) → is_lt (by_claim d c) ≡ false → UpTo claim_cmp (counted (claim_at c)) (counted (claim_at d))
not_less c d e =
    let r = parts_of d c in
    turned (claim_cmp (counted (claim_at d)) (counted (claim_at c))) (claim_cmp (counted (claim_at c)) (counted (claim_at d))) (claim_total.antisymm (counted (claim_at c)) (counted (claim_at d)))
    (front_of (place_cmp (place_at d.source) (place_at c.source)) (nat_cmp d.output c.output) (place_cmp (place_at d.at) (place_at c.at)) r.0 (subst (λ o. is_lt o ≡ false) r.1 e))

pub rise_in_order : (cs : List VisibleClaim) → IsSorted by_claim cs → DoRise cs
rise_in_order cs up i j x y le at there = not_less x y
    (subst (λ z. is_lt (by_claim z x) ≡ false) (get_or_from_slice_get cs j y x there)
    (subst (λ z. is_lt (by_claim (slice_index_or cs j x) z) ≡ false) (get_or_from_slice_get cs i x x at)
    (sorted_far (λ c d. is_lt (by_claim c d)) (ranks_by sorted-total (λ (c : VisibleClaim). c)) cs up i j x le (slice_get_within cs j y there))))

-- ---- among an application's claims of a source

module _ (a : Application) (apart : AreApart a) (i : Place) (cs : List VisibleClaim) (are : AreClaimsOf a i cs) where
  source_at : (k : ℕ) (c : VisibleClaim) → slice_get cs k ≡ Some c → place_at c.source ≡ i
  source_at k c at = (are.sound c (get_has cs k c at)).source

  same_source : (j k : ℕ) (c d : VisibleClaim) → slice_get cs j ≡ Some c → slice_get cs k ≡ Some d → place_at c.source ≡ place_at d.source
  same_source j k c d at there = source_at j c at ∙ sym (source_at k d there)

  pub numbers_rise : DoNumbersRise cs
  numbers_rise j k c d le at there = outputs_rise (counted (claim_at c)) (counted (claim_at d)) (are.rise j k c d le at there) (same_source j k c d at there)

  module _ (test : PlacedClaim → Bool) {cmp : PlacedClaim → PlacedClaim → Ordering} (o : IsTotalOrder cmp) (tied : (c d : PlacedClaim) → cmp c d ≡ Equal → c.at ≡ d.at) (named : (c : PlacedClaim) → test c ≡ true → c.source ≡ i) where
    of_claims : (c : PlacedClaim) → Has a.claims c → test c ≡ true → (d : VisibleClaim) × Has cs d × (claim_at d ≡ c)
    of_claims c h e = map_has claim_at cs c (are.whole c (record { has = h; source = named c e }))

    none_is : ((d : VisibleClaim) → Has cs d → test (claim_at d) ≡ true → ⊥) → None ≡ least_where test cmp a.claims
    none_is none = go (least_where test cmp a.claims) (least_is test o a.claims)
      where
        go : (w : Option PlacedClaim) → MatchOption w (NoneWhere test a.claims) (IsLeastWhere test cmp a.claims) → None ≡ w
        go None m = refl
        go (Some t) m = let d = of_claims t m.has m.holds in absurd (none d.0 d.1 (subst (λ c. test c ≡ true) (sym d.2) m.holds))

    some_is : (c : VisibleClaim) → Has cs c → test (claim_at c) ≡ true → ((d : VisibleClaim) → Has cs d → test (claim_at d) ≡ true → UpTo cmp (claim_at c) (claim_at d))
        → Some (claim_at c) ≡ least_where test cmp a.claims
    some_is c h e least = go (least_where test cmp a.claims) (least_is test o a.claims)
      where
        here : Has a.claims (claim_at c)
        here = (are.sound c h).has

        go : (w : Option PlacedClaim) → MatchOption w (NoneWhere test a.claims) (IsLeastWhere test cmp a.claims) → Some (claim_at c) ≡ w
        go None m = absurd (m (claim_at c) here e)
        go (Some t) m =
            let d = of_claims t m.has m.holds in
            let low : UpTo cmp (claim_at c) t = subst (UpTo cmp (claim_at c)) d.2 (least d.0 d.1 (subst (λ z. test z ≡ true) (sym d.2) m.holds)) in
            let high = m.least (claim_at c) here e in
            ap Some (apart (claim_at c) t here m.has (tied (claim_at c) t (neither_greater o (claim_at c) t low high)))

  number_tied : (c d : PlacedClaim) → number_cmp c d ≡ Equal → c.at ≡ d.at
  number_tied c d e = place_exact c.at d.at (then_parts (nat_cmp c.output d.output) (place_cmp c.at d.at) e).1

  at_tied : (c d : PlacedClaim) → at_cmp c d ≡ Equal → c.at ≡ d.at
  at_tied c d e = place_exact c.at d.at e

  by_name : (c : PlacedClaim) → names i c ≡ true → c.source ≡ i
  by_name c e = same_place_true c.source i e

  by_number : (n : ℕ) (c : PlacedClaim) → is_numbered i n c ≡ true → c.source ≡ i
  by_number n c e = same_place_true c.source i (and_left (names i c) (is_eq (nat_cmp c.output n)) e)
    where
      and_left : (x y : Bool) → (x && y) ≡ true → x ≡ true
      and_left true y e = refl
      and_left false y e = absurd cc

  number_of : (n : ℕ) (c : VisibleClaim) → Has cs c → is_numbered i n (claim_at c) ≡ true → c.output ≡ n
  number_of n c h e = (numbered_is a.claims i n (claim_at c) (are.sound c h).has e).output

  -- ---- the first of the source

  pub first_none : slice_get cs 0 ≡ None → None ≡ first_of a.claims i
  first_none none = none_is (names i) number_total number_tied by_name (λ d h e. nobody cs none d h)
    where
      nobody : (ds : List VisibleClaim) → slice_get ds 0 ≡ None → (d : VisibleClaim) → Has ds d → ⊥
      nobody [] e d h = h
      nobody (c ∷ ds) e d h = absurd cc

  pub first_some : (c : VisibleClaim) → slice_get cs 0 ≡ Some c → Some (claim_at c) ≡ first_of a.claims i
  first_some c at = some_is (names i) number_total number_tied by_name c (get_has cs 0 c at) (true_same_place (place_at c.source) i (source_at 0 c at)) (λ d h e.
      let r = has_get cs d h in
      subst (λ o. is_gt o ≡ false) (same_number (claim_at c) (claim_at d) (same_source 0 r.0 c d at r.1)) (are.rise 0 r.0 c d (omega arith) at r.1))

  -- ---- the first of a number

  numbered_some : (k : ℕ) (c : VisibleClaim) → slice_get cs k ≡ Some c → ((j : ℕ) (d : VisibleClaim) → j < k → slice_get cs j ≡ Some d → d.output ≢ c.output) → Some (claim_at c) ≡ first_at a.claims i c.output
  numbered_some k c at none = some_is (is_numbered i c.output) at_total at_tied (by_number c.output) c (get_has cs k c at) (is_numbered_by i c.output (claim_at c) (source_at k c at) refl) (λ d h e.
      let r = has_get cs d h in
      let same : d.output ≡ c.output = number_of c.output d h e in
      elim (cases_lt r.0 k) [
        | inl lt ↦ absurd (none r.0 d lt r.1 same)
        | inr ge ↦ elim (in_run (counted (claim_at c)) (counted (claim_at d)) (are.rise k r.0 c d ge at r.1) (same_source k r.0 c d at r.1)) [
          | inl lt ↦ absurd (omega (arith, lt, same))
          | inr q ↦ q.1
        ]
      ])

  pub first_begins : (c : VisibleClaim) → slice_get cs 0 ≡ Some c → IsFirstSoFar a i cs 0 c
  first_begins c at = record {
    index = 0;
    within = omega arith;
    at = at;
    is_first = numbered_some 0 c at (λ j d lt. absurd (omega (arith, lt)));
    greatest = λ j d lt. absurd (omega (arith, lt));
  }

  same_item : {X : Type 0} (x y : X) → Some x ≡ Some y → x ≡ y
  same_item x y e = cc

  -- one claim further
  pub first_next : (k : ℕ) (before c first : VisibleClaim) → IsFirstSoFar a i cs k before → slice_get cs k ≡ Some c → IsNextFirst before c first → IsFirstSoFar a i cs (k + 1) first × (first.output ≡ c.output)
  first_next k before c first so_far at (inl e) =
      (subst (IsFirstSoFar a i cs (k + 1)) (sym e.1) stays, ap (λ (z : VisibleClaim). z.output) e.1 ∙ sym e.0)
    where
      stays : IsFirstSoFar a i cs (k + 1) before
      stays = record {
        index = so_far.index;
        within = let le = so_far.within in omega (arith, le);
        at = so_far.at;
        is_first = so_far.is_first;
        greatest = λ j d lt there. elim (cases_lt j k) [
          | inl l ↦ so_far.greatest j d l there
          | inr ge ↦
              let here : j ≡ k = omega (arith, lt, ge) in
              let same : d ≡ c = same_item d c (sym there ∙ (ap (slice_get cs) here ∙ at)) in
              let n : d.output ≡ c.output = ap (λ (z : VisibleClaim). z.output) same in
              let m = e.0 in
              omega (arith, n, m)
        ];
      }
  first_next k before c first so_far at (inr e) =
      (subst (IsFirstSoFar a i cs (k + 1)) (sym e.1) moves, ap (λ (z : VisibleClaim). z.output) e.1)
    where
      up : before.output ≤ c.output
      up = numbers_rise so_far.index k before c so_far.within so_far.at at

      moves : IsFirstSoFar a i cs (k + 1) c
      moves = record {
        index = k;
        within = omega arith;
        at = at;
        is_first = numbered_some k c at (λ j d lt there same.
            let le = so_far.greatest j d lt there in
            e.0 (omega (arith, up, le, same)));
        greatest = λ j d lt there. numbers_rise j k d c (omega (arith, lt)) there at;
      }

  -- ---- the numbers that are there

  pub there_is : (n : ℕ) → HasNumber cs n → is_there a.claims i n ≡ true
  there_is n h = go (first_at a.claims i n) refl
    where
      named : is_numbered i n (claim_at h.0) ≡ true
      named = is_numbered_by i n (claim_at h.0) (are.sound h.0 h.1).source h.2

      go : (w : Option PlacedClaim) → first_at a.claims i n ≡ w → is_some w ≡ true
      go None e = absurd (by_least (is_numbered i n) at_total a.claims None e (claim_at h.0) (are.sound h.0 h.1).has named)
      go (Some c) e = refl

  pub not_there : (n : ℕ) → (HasNumber cs n → ⊥) → is_there a.claims i n ≡ false
  not_there n lacks = ap is_some (sym (none_is (is_numbered i n) at_total at_tied (by_number n) (λ d h e. lacks (d, h, number_of n d h e))))
