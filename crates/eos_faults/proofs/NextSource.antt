-- The claims and inputs of the next source, where those in front of them are of lesser ones.
use Rattle.std.proofs.Common.{◌≡◌, ◌∙◌, ◌<◌, ◌≤◌, ◌+◌, ◌-◌, ℕ, arith, List, length, map, take, drop, Option, Some, None, refl, sym, ap, subst, inl, inr, false, IsSorted}
use Rattle.std.specs.Prelude.{slice_get, get_or}
use Rattle.std.specs.Ordering.{is_lt, is_gt, ordering_reverse}
use Rattle.std.specs.declared.cmp.Ordering.{Ordering}
use Rattle.std.specs.declared.cmp.Ordering.TheVariants.{Less, Equal, Greater}
use Rattle.std.proofs.lemmas.Bool.{cases_lt}
use Rattle.std.proofs.lemmas.Cmp.{tied_itself}
use Rattle.std.proofs.lemmas.Option.{slice_get_within, slice_get-get_or}
use Rattle.eos_base.specs.Least.{UpTo}
use Rattle.eos_base.specs.Members.{Has}
use Rattle.eos_base.proofs.Membership.{has_map, map_has}
use Rattle.eos_fold.proofs.ListPlaces.{get_take, get_drop}
use Rattle.eos_claims.specs.declared.place.Place.{Place}
use Rattle.eos_claims.specs.Outputs.{PlacedClaim, Application}
use Rattle.eos_claims.specs.Faults.{place_cmp}
use Rattle.eos_claims.proofs.FaultOrder.{place_exact, place_total}
use Rattle.eos_commits.proofs.NameSearch.{get_has}
use Rattle.eos_faults.specs.declared.lent.LentPlace.{LentPlace}
use Rattle.eos_faults.specs.declared.lent.VisibleClaim.{VisibleClaim}
use Rattle.eos_faults.specs.steps.BySource.{AllFrom, ArePassed, IsBeforeBoth, IsEndOf, IsNext, by_lent, itself, source_of}
use Rattle.eos_faults.specs.steps.Plain.{claim_at, place_at}
use Rattle.eos_faults.specs.steps.SourceClaims.{AreClaimsOf, AreInputsAt}
use Rattle.eos_faults.specs.steps.Tables.{AreClaims, AreInputs, by_claim}
use Rattle.eos_faults.proofs.BySource.{get_stretch, in_stretch, up_less}
use Rattle.eos_faults.proofs.FirstClaims.{neither_greater}
use Rattle.eos_faults.proofs.SortedClaims.{has_get, rise_in_order}
use Rattle.eos_faults.proofs.SourceEnds.{Rises, claims_rise, inputs_rise}

-- ---- places in order

up_itself : (x : Place) → UpTo place_cmp x x
up_itself x = ap is_gt (tied_itself place_total x)

up_up : (x y z : Place) → UpTo place_cmp x y → UpTo place_cmp y z → UpTo place_cmp x z
up_up x y z u v = go (place_cmp x y) refl u
  where
    less : place_cmp x y ≡ Less → (o : Ordering) → place_cmp y z ≡ o → is_gt o ≡ false → UpTo place_cmp x z
    less l Less e f = ap is_gt (place_total.trans x y z l e)
    less l Equal e f = ap is_gt (subst (λ w. place_cmp x w ≡ Less) (place_exact y z e) l)
    less l Greater e f = absurd cc

    go : (o : Ordering) → place_cmp x y ≡ o → is_gt o ≡ false → UpTo place_cmp x z
    go Less e f = less e (place_cmp y z) refl v
    go Equal e f = subst (λ w. UpTo place_cmp w z) (sym (place_exact x y e)) v
    go Greater e f = absurd cc

pub not_behind : (x y : Place) → is_lt (place_cmp y x) ≡ false → UpTo place_cmp x y
not_behind x y e = go (place_cmp y x) (place_cmp x y) (place_total.antisymm x y) e
  where
    go : (o p : Ordering) → p ≡ ordering_reverse o → is_lt o ≡ false → is_gt p ≡ false
    go Less p e f = absurd cc
    go Equal p e f = rw e refl
    go Greater p e f = rw e refl

one_place : (x y : Place) → UpTo place_cmp x y → UpTo place_cmp y x → x ≡ y
one_place x y u v = place_exact x y (neither_greater place_total x y u v)

apart_places : (x y : Place) → x ≡ y → place_cmp x y ≡ Less → ⊥
apart_places x y e less =
    let tied : place_cmp x y ≡ Equal = subst (λ z. place_cmp x z ≡ Equal) e (tied_itself place_total x) in
    let bad : Less ≡ Equal = sym less ∙ tied in
    absurd cc

-- an item stands in a stretch
stretch_has : {X : Type 0} (xs : List X) (j m k : ℕ) (x : X) → j ≤ k → k < j + m → slice_get xs k ≡ Some x → Has (take m (drop j xs)) x
stretch_has xs j m k x le lt at =
    let here : j + (k - j) ≡ k = omega (arith, le) in
    get_has (take m (drop j xs)) (k - j) x (get_take m (drop j xs) (k - j) (omega (arith, le, lt)) ∙ (get_drop j xs (k - j) ∙ (ap (slice_get xs) here ∙ at)))

-- ---- the next source

module _ (s : LentPlace) where
  abbrev IsLow : {X : Type 0} → (X → LentPlace) → List X → ℕ → Type 0
  IsLow of xs n = AllFrom (λ x. UpTo place_cmp (place_at s) (place_at (of x))) xs n (length xs)

  low_from : {X : Type 0} (of : X → LentPlace) (xs : List X) (n : ℕ) → Rises of xs → ((x : X) → slice_get xs n ≡ Some x → UpTo place_cmp (place_at s) (place_at (of x))) → IsLow of xs n
  low_from of xs n far first k y le lt at =
      let x = get_or xs n y in
      let there : slice_get xs n ≡ Some x = slice_get-get_or xs n y (omega (arith, le, lt)) in
      up_up (place_at s) (place_at (of x)) (place_at (of y)) (first x there) (not_behind (place_at (of x)) (place_at (of y)) (far n k x y le there at))

  same : (x y : LentPlace) → Some x ≡ Some y → x ≡ y
  same x y e = cc

  up_same : (x : LentPlace) → Some s ≡ Some x → UpTo place_cmp (place_at s) (place_at x)
  up_same x e = subst (λ z. UpTo place_cmp (place_at s) (place_at z)) (same s x e) (up_itself (place_at s))

  up_other : (x y : LentPlace) → Some s ≡ Some x → UpTo place_cmp (place_at x) (place_at y) → UpTo place_cmp (place_at s) (place_at y)
  up_other x y e u = subst (λ z. UpTo place_cmp (place_at z) (place_at y)) (sym (same s x e)) u

  up_to_claim : (c : VisibleClaim) (i : Option LentPlace) → IsNext (Some c) i (Some s) → UpTo place_cmp (place_at s) (place_at c.source)
  up_to_claim c None h = up_same c.source h
  up_to_claim c (Some i) (inl h) = up_same c.source h.0
  up_to_claim c (Some i) (inr h) = up_other i c.source h.0 h.1

  up_to_input : (c : Option VisibleClaim) (i : LentPlace) → IsNext c (Some i) (Some s) → UpTo place_cmp (place_at s) (place_at i)
  up_to_input None i h = up_same i h
  up_to_input (Some c) i (inl h) = up_other c.source i h.0 h.1
  up_to_input (Some c) i (inr h) = up_same i h.0

  module _ (cs : List VisibleClaim) (is : List LentPlace) (j k : ℕ) (next : IsNext (slice_get cs j) (slice_get is k) (Some s)) where
    low_claims : IsSorted by_claim cs → IsLow source_of cs j
    low_claims up = low_from source_of cs j (claims_rise cs up) (λ c e. up_to_claim c (slice_get is k) (subst (λ o. IsNext o (slice_get is k) (Some s)) e next))

    low_inputs : IsSorted by_lent is → IsLow itself is k
    low_inputs up = low_from itself is k (inputs_rise is up) (λ x e. up_to_input (slice_get cs j) x (subst (λ o. IsNext (slice_get cs j) o (Some s)) e next))

    -- what is before all that is left is before the source
    below : (p : Place) → IsBeforeBoth cs is j k p → place_cmp p (place_at s) ≡ Less
    below p before = go (slice_get cs j) (slice_get is k) refl refl next
      where
        of_claim : (d : VisibleClaim) → slice_get cs j ≡ Some d → Some s ≡ Some d.source → place_cmp p (place_at s) ≡ Less
        of_claim d e h = subst (λ z. place_cmp p (place_at z) ≡ Less) (sym (same s d.source h)) (before.0 j d (omega arith) (slice_get_within cs j d e) e)

        of_input : (x : LentPlace) → slice_get is k ≡ Some x → Some s ≡ Some x → place_cmp p (place_at s) ≡ Less
        of_input x e h = subst (λ z. place_cmp p (place_at z) ≡ Less) (sym (same s x h)) (before.1 k x (omega arith) (slice_get_within is k x e) e)

        go : (d : Option VisibleClaim) (x : Option LentPlace) → slice_get cs j ≡ d → slice_get is k ≡ x → IsNext d x (Some s) → place_cmp p (place_at s) ≡ Less
        go None None e f h = absurd cc
        go (Some d) None e f h = of_claim d e h
        go None (Some x) e f h = of_input x f h
        go (Some d) (Some x) e f (inl h) = of_claim d e h.0
        go (Some d) (Some x) e f (inr h) = of_input x f h.0

    -- what is of the source isn't passed
    not_passed : (p : Place) → p ≡ place_at s → IsBeforeBoth cs is j k p → ⊥
    not_passed p e before = apart_places p (place_at s) e (below p before)

    pub claims_of_next : (a : Application) (p : ℕ) → AreClaims a cs → IsSorted by_claim cs → ArePassed cs is j k → IsEndOf source_of cs j s p → AreClaimsOf a (place_at s) (take (p - j) (drop j cs))
    claims_of_next a p are up passed end = record {
      rise = λ m n c d le at there.
          let x = get_stretch cs j (p - j) m c at in
          let y = get_stretch cs j (p - j) n d there in
          rise_in_order cs up (j + m) (j + n) c d (omega (arith, le)) x.1 y.1;
      sound = λ c h.
          let r = in_stretch cs j (p - j) c h in
          let lt = r.2 in record {
            has = are.sound (claim_at c) (has_map claim_at cs c (get_has cs r.0 c r.3));
            source = one_place (place_at c.source) (place_at s) (end.up_to r.0 c r.1 (omega (arith, further, lt)) r.3) (low_claims up r.0 c r.1 (slice_get_within cs r.0 c r.3) r.3);
          };
      whole = λ d names.
          let m = map_has claim_at cs d (are.whole d names.has) in
          let r = has_get cs m.0 m.1 in
          let source : place_at m.0.source ≡ place_at s = ap (λ (z : PlacedClaim). z.source) m.2 ∙ names.source in
          elim (cases_lt r.0 j) [
            | inl lt ↦ absurd (not_passed (place_at m.0.source) source (passed.claims r.0 m.0 (omega arith) lt r.1))
            | inr ge ↦ elim (cases_lt r.0 p) [
              | inl lt ↦ subst (Has (map claim_at (take (p - j) (drop j cs)))) m.2 (has_map claim_at (take (p - j) (drop j cs)) m.0 (stretch_has cs j (p - j) r.0 m.0 ge (omega (arith, further, lt)) r.1))
              | inr over ↦ absurd (apart_places (place_at s) (place_at m.0.source) (sym source) (end.beyond r.0 m.0 over (slice_get_within cs r.0 m.0 r.1) r.1))
            ]
          ];
    }
      where
        further : j ≤ p
        further = end.further

    pub inputs_of_next : (a : Application) (q : ℕ) → AreInputs a is → IsSorted by_lent is → ArePassed cs is j k → IsEndOf itself is k s q → AreInputsAt a (place_at s) (take (q - k) (drop k is))
    inputs_of_next a q are up passed end = record {
      at = at;
      sound = λ x h.
          let r = in_stretch is k (q - k) x h in
          subst (Has a.inputs) (at x h) (are.sound (place_at x) (has_map place_at is x (get_has is r.0 x r.3)));
      some = λ h.
          let m = map_has place_at is (place_at s) (are.whole (place_at s) h) in
          let r = has_get is m.0 m.1 in
          elim (cases_lt r.0 k) [
            | inl lt ↦ absurd (not_passed (place_at m.0) m.2 (passed.inputs r.0 m.0 (omega arith) lt r.1))
            | inr ge ↦ elim (cases_lt r.0 q) [
              | inl lt ↦ (m.0, stretch_has is k (q - k) r.0 m.0 ge (omega (arith, further, lt)) r.1)
              | inr over ↦ absurd (apart_places (place_at s) (place_at m.0) (sym m.2) (end.beyond r.0 m.0 over (slice_get_within is r.0 m.0 r.1) r.1))
            ]
          ];
    }
      where
        further : k ≤ q
        further = end.further

        at : (x : LentPlace) → Has (take (q - k) (drop k is)) x → place_at x ≡ place_at s
        at x h =
            let r = in_stretch is k (q - k) x h in
            let lt = r.2 in
            one_place (place_at x) (place_at s) (end.up_to r.0 x r.1 (omega (arith, further, lt)) r.3) (low_inputs up r.0 x r.1 (slice_get_within is r.0 x r.3) r.3)

    -- one source further
    pub passed_more : (p q : ℕ) → ArePassed cs is j k → IsEndOf source_of cs j s p → IsEndOf itself is k s q → ArePassed cs is p q
    passed_more p q passed claims inputs = record {
      claims = λ t c le lt at. elim (cases_lt t j) [
        | inl l ↦ still (place_at c.source) (passed.claims t c le l at)
        | inr ge ↦ now (place_at c.source) (claims.up_to t c ge lt at)
      ];
      inputs = λ t x le lt at. elim (cases_lt t k) [
        | inl l ↦ still (place_at x) (passed.inputs t x le l at)
        | inr ge ↦ now (place_at x) (inputs.up_to t x ge lt at)
      ];
    }
      where
        still : (o : Place) → IsBeforeBoth cs is j k o → IsBeforeBoth cs is p q o
        still o before =
            let further = claims.further in
            let more = inputs.further in
            (λ i d ge less there. before.0 i d (omega (arith, further, ge)) less there, λ i x ge less there. before.1 i x (omega (arith, more, ge)) less there)

        now : (o : Place) → UpTo place_cmp o (place_at s) → IsBeforeBoth cs is p q o
        now o up = (
          λ i d above less there. up_less o (place_at s) (place_at d.source) up (claims.beyond i d above less there),
          λ i x above less there. up_less o (place_at s) (place_at x) up (inputs.beyond i x above less there),
        )

pub none_passed : (cs : List VisibleClaim) (is : List LentPlace) → ArePassed cs is 0 0
none_passed cs is = record { claims = λ t c le lt at. absurd (omega (arith, lt)); inputs = λ t x le lt at. absurd (omega (arith, lt)) }
