-- What is gathered stands.
use Rattle.std.proofs.Common.{◌≡◌, ◌≢◌, ℕ, pos, Option, Some, None, refl, subst, inl, inr, true, false, Bool, not, ◌&&◌, arith, flat_map}
use Rattle.std.specs.Prelude.{is_some}
use Rattle.eos_base.specs.Members.{Has}
use Rattle.eos_base.proofs.Decides.{differs}
use Rattle.eos_base.proofs.Membership.{append_cases, flat_has, if_has, only}
use Rattle.eos_claims.specs.declared.place.Place.{Place}
use Rattle.eos_claims.specs.declared.fault.OutputFault.{OutputFault}
use Rattle.eos_claims.specs.declared.fault.OutputKind.{OutputKind}
use Rattle.eos_claims.specs.declared.fault.OutputKind.TheVariants.{ForeignSource, NoSuchInput, Early, CountDisagrees, NumberRange, Repeated, OtherTransaction}
use Rattle.eos_claims.specs.Outputs.{PlacedClaim, Application, committed_offset, IsBelow, Names}
use Rattle.eos_claims.specs.Faults.{place_cmp, IsTop, Stands}
use Rattle.eos_claims.specs.Candidates.{counted, fault_at, missing, when, names, is_source, is_input, is_committed, is_out_of_range, is_passed}
use Rattle.eos_claims.proofs.CandidatesSound.{when_has}
use Rattle.eos_claims.proofs.ClaimOrder.{both_from, is_less, not_eq}
use Rattle.eos_claims.proofs.ClaimTests.{source_is, is_source_has, input_is, is_input_has, not_less_int, below_is, out_is, is_passed_by}
use Rattle.eos_claims.proofs.FaultOrder.{number_total}
use Rattle.eos_claims.proofs.OutputsLaw.{at_claim}
use Rattle.eos_faults.specs.steps.OutputFaultsGathered.{first_of, is_numbered, first_at, disagrees, is_repeated, placed_at, numbered_at, shown_at, first_absent, top_of, is_there, missing_at, lacks, lacking, gathered}
use Rattle.eos_faults.proofs.FirstClaims.{by_least, at_total, first_is, none_first, numbered_is, is_numbered_by, absent_is}

is_false : (b : Bool) → not b ≡ true → b ≡ false
is_false false e = refl
is_false true e = absurd cc

module _ (a : Application) where
  abbrev Are : OutputFault → Type 0
  Are f = Stands a f

  -- what a claim shows where the test holds
  shown : (c : PlacedClaim) (k : OutputKind) (b : Bool) (f : OutputFault) → Has (when b (fault_at k (counted c))) f → (b ≡ true → Stands a (fault_at k (counted c))) → Stands a f
  shown c k b f h stands = let r = when_has b (fault_at k (counted c)) f h in subst Are r.1 (stands r.0)

  placed_sound : (c : PlacedClaim) → Has a.claims c → (f : OutputFault) → Has (placed_at a c) f → Stands a f
  placed_sound c h f k = elim (append_cases (when (not s) (fault_at ForeignSource (counted c))) _ f k) [
    | inl x ↦ shown c ForeignSource (not s) f x (λ e. (at_claim a c ForeignSource h, λ has. differs s (is_false s e) (is_source_has a c.source has)))
    | inr x ↦ elim (append_cases (when (s && not i) (fault_at NoSuchInput (counted c))) _ f x) [
      | inl y ↦ shown c NoSuchInput (s && not i) f y (λ e. let r = both_from s (not i) e in (at_claim a c NoSuchInput h, source_is a c.source r.0, λ has. differs i (is_false i r.1) (is_input_has a c.source has)))
      | inr y ↦ elim (append_cases (when (i && not m) (fault_at Early (counted c))) _ f y) [
        | inl z ↦ shown c Early (i && not m) f z (λ e. let r = both_from i (not m) e in (at_claim a c Early h, input_is a c.source r.0, not_less_int (pos c.source.offset) (committed_offset a.commits c.source.partition) (is_false m r.1)))
        | inr z ↦ shown c OtherTransaction (i && (m && not p)) f z (λ e.
            let r = both_from i (m && not p) e in
            let q = both_from m (not p) r.1 in
            (at_claim a c OtherTransaction h, below_is a c.source r.0 q.0, λ by. differs p (is_false p q.1) (is_passed_by a c by)))
      ]
    ]
  ]
    where
      s : Bool
      s = is_source a c.source

      i : Bool
      i = is_input a c.source

      m : Bool
      m = is_committed a c.source

      p : Bool
      p = is_passed a c

  disagrees_sound : (c : PlacedClaim) → Has a.claims c → (w : Option PlacedClaim) → first_of a.claims c.source ≡ w → disagrees w c.of ≡ true → Stands a (fault_at CountDisagrees (counted c))
  disagrees_sound c h None e t = absurd cc
  disagrees_sound c h (Some d) e t =
      let l = by_least (names c.source) number_total a.claims (Some d) e in
      (at_claim a c CountDisagrees h, d, first_is a c.source d l, not_eq c.of d.of t)

  repeated_sound : (c : PlacedClaim) → Has a.claims c → (w : Option PlacedClaim) → first_at a.claims c.source c.output ≡ w → is_repeated w c.at ≡ true → Stands a (fault_at Repeated (counted c))
  repeated_sound c h None e t = absurd cc
  repeated_sound c h (Some d) e t =
      let l = by_least (is_numbered c.source c.output) at_total a.claims (Some d) e in
      let n = numbered_is a.claims c.source c.output d l.has l.holds in
      (at_claim a c Repeated h, d, record { has = n.has; source = n.source }, n.output, is_less (place_cmp d.at c.at) t)

  numbered_sound : (c : PlacedClaim) → Has a.claims c → (f : OutputFault) → Has (numbered_at a c) f → Stands a f
  numbered_sound c h f k = elim (append_cases (when o (fault_at NumberRange (counted c))) _ f k) [
    | inl x ↦ shown c NumberRange o f x (λ e. (at_claim a c NumberRange h, out_is c.of c.output e))
    | inr x ↦ elim (append_cases (when d (fault_at CountDisagrees (counted c))) _ f x) [
      | inl y ↦ shown c CountDisagrees d f y (λ e. disagrees_sound c h (first_of a.claims c.source) refl e)
      | inr y ↦ shown c Repeated r f y (λ e. repeated_sound c h (first_at a.claims c.source c.output) refl e)
    ]
  ]
    where
      o : Bool
      o = is_out_of_range c.of c.output

      d : Bool
      d = disagrees (first_of a.claims c.source) c.of

      r : Bool
      r = is_repeated (first_at a.claims c.source c.output) c.at

  -- ---- an input

  pub top_is : (i : Place) (w : Option PlacedClaim) → first_of a.claims i ≡ w → IsTop a i (top_of w)
  top_is i None e = inr (none_first a i (by_least (names i) number_total a.claims None e), refl)
  top_is i (Some t) e = inl (t, first_is a i t (by_least (names i) number_total a.claims (Some t) e), refl)

  absent_claims : (i : Place) (n : ℕ) → is_there a.claims i n ≡ false → (c : PlacedClaim) → Names a i c → c.output ≢ n
  absent_claims i n e c names q = go (first_at a.claims i n) refl e
    where
      go : (w : Option PlacedClaim) → first_at a.claims i n ≡ w → is_some w ≡ false → ⊥
      go None is t = by_least (is_numbered i n) at_total a.claims None is c names.has (is_numbered_by i n c names.source q)
      go (Some d) is t = absurd cc

  lacks_sound : (i : Place) → IsBelow a i → (f : OutputFault) → Has (lacks a.claims i) f → Stands a f
  lacks_sound i below f h = go (first_absent (is_there a.claims i) (top_of (first_of a.claims i)) 1) refl h
    where
      go : (o : Option ℕ) → first_absent (is_there a.claims i) (top_of (first_of a.claims i)) 1 ≡ o → Has (missing_at i o) f → Stands a f
      go None e h = absurd h
      go (Some n) e h =
          let r = absent_is (is_there a.claims i) (top_of (first_of a.claims i)) 1 n e in
          let from = r.from in
          let last = r.below in
          subst Are (only (missing i n) f h) (record {
            below = below;
            top = top_of (first_of a.claims i);
            is_top = top_is i (first_of a.claims i) refl;
            first = from;
            last = omega (arith, last);
            absent = absent_claims i n r.absent;
            at = refl;
          })

  lacking_sound : (i : Place) → Has a.inputs i → (f : OutputFault) → Has (lacking a i) f → Stands a f
  lacking_sound i h f k =
      let r = if_has (is_committed a i) (lacks a.claims i) f k in
      lacks_sound i (below_is a i (is_input_has a i h) r.0) f r.1

  pub sound : (f : OutputFault) → Has (gathered a) f → Stands a f
  sound f h = elim (append_cases (flat_map (shown_at a) a.claims) (flat_map (lacking a) a.inputs) f h) [
    | inl x ↦
        let c = flat_has (shown_at a) a.claims f x in
        elim (append_cases (placed_at a c.0) (numbered_at a c.0) f c.2) [ inl y ↦ placed_sound c.0 c.1 f y | inr y ↦ numbered_sound c.0 c.1 f y ]
    | inr x ↦ let i = flat_has (lacking a) a.inputs f x in lacking_sound i.0 i.1 f i.2
  ]
