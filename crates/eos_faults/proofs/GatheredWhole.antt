-- What stands is gathered, or another output of lesser number that the same input lacks.
use Rattle.std.proofs.Common.{◌≡◌, ◌≢◌, ℕ, ◌+◌, ◌≤◌, ◌<◌, pos, ◌≤ℤ◌, List, [], ◌∷◌, Option, Some, None, refl, sym, subst, ap, ◌∙◌, inl, inr, ◌⊎◌, true, false, Bool, not, ◌&&◌, arith, flat_map}
use Rattle.std.specs.Prelude.{◌==◌, is_some}
use Rattle.std.specs.Ordering.{is_lt}
use Rattle.std.specs.declared.cmp.Ordering.{Ordering}
use Rattle.std.specs.declared.cmp.Ordering.TheVariants.{Less}
use Rattle.std.proofs.lemmas.Bool.{eqb-true, and_from}
use Rattle.std.proofs.lemmas.Int.{ints}
use Rattle.eos_base.specs.Members.{Has}
use Rattle.eos_base.proofs.Membership.{append_cases, append_left, append_right, flat_has, has_flat, if_has, has_if, only}
use Rattle.eos_claims.specs.declared.place.Place.{Place}
use Rattle.eos_claims.specs.declared.fault.OutputFault.{OutputFault}
use Rattle.eos_claims.specs.declared.fault.OutputKind.{OutputKind}
use Rattle.eos_claims.specs.declared.fault.OutputKind.TheVariants.{ForeignSource, NoSuchInput, Early, CountDisagrees, NumberRange, Repeated, Missing, OtherTransaction}
use Rattle.eos_claims.specs.Outputs.{PlacedClaim, Application, ReadsSources, committed_offset, IsBelow, Names}
use Rattle.eos_claims.specs.Faults.{place_cmp, IsLeastClaim, AtClaim, IsOutOfRange, IsTop, IsMissing, StandsAs, Stands}
use Rattle.eos_claims.specs.Candidates.{Counted, counted, fault_at, missing, when, names, AreApart, is_source, is_input, is_committed, is_out_of_range, is_passed}
use Rattle.eos_claims.proofs.CandidatesSound.{when_has}
use Rattle.eos_claims.proofs.ClaimOrder.{true_same_place}
use Rattle.eos_claims.proofs.ClaimTests.{source_is, is_source_has, input_is, is_input_has, less_is, is_less_int, is_out, passed_is}
use Rattle.eos_claims.proofs.FaultOrder.{number_total}
use Rattle.eos_claims.proofs.OutputsLaw.{nat_less_or}
use Rattle.eos_faults.specs.OneInput.{OfOneInput}
use Rattle.eos_faults.specs.steps.OutputFaultsGathered.{first_of, is_numbered, first_at, place_faults, disagrees, is_repeated, number_faults, placed_at, numbered_at, shown_at, first_absent, top_of, is_there, missing_at, lacks, lacking, gathered, HasEarlier}
use Rattle.eos_faults.proofs.FirstClaims.{by_least, at_total, first_is, one_first, numbered_is, is_numbered_by, place_less, absent_found}
use Rattle.eos_faults.proofs.GatheredSound.{top_is}

is_not : (b : Bool) → (b ≡ true → ⊥) → not b ≡ true
is_not false n = refl
is_not true n = absurd (n refl)

is_when : (b : Bool) (f : OutputFault) → b ≡ true → Has (when b f) f
is_when b f e = has_if b (f ∷ []) f e (inl refl)

unequal : (m n : ℕ) → m ≢ n → not (m == n) ≡ true
unequal m n d = is_not (m == n) (λ e. d (eqb-true m n e))

less_lt : (o : Ordering) → o ≡ Less → is_lt o ≡ true
less_lt o e = subst (λ z. is_lt z ≡ true) (sym e) refl

-- ---- at a claim

-- what stands at places of four tests
module _ (s i m p : Bool) (c : Counted) where
  abbrev here : List OutputFault
  here = place_faults s i m p c

  foreign_in : s ≡ false → Has here (fault_at ForeignSource c)
  foreign_in e = append_left (when (not s) (fault_at ForeignSource c)) _ _ (is_when (not s) _ (ap not e))

  no_input_in : s ≡ true → i ≡ false → Has here (fault_at NoSuchInput c)
  no_input_in e f = append_right (when (not s) (fault_at ForeignSource c)) _ _
      (append_left (when (s && not i) (fault_at NoSuchInput c)) _ _ (is_when (s && not i) _ (and_from s (not i) e (ap not f))))

  early_in : i ≡ true → m ≡ false → Has here (fault_at Early c)
  early_in e f = append_right (when (not s) (fault_at ForeignSource c)) _ _
      (append_right (when (s && not i) (fault_at NoSuchInput c)) _ _
      (append_left (when (i && not m) (fault_at Early c)) _ _ (is_when (i && not m) _ (and_from i (not m) e (ap not f)))))

  other_in : i ≡ true → m ≡ true → p ≡ false → Has here (fault_at OtherTransaction c)
  other_in e f g = append_right (when (not s) (fault_at ForeignSource c)) _ _
      (append_right (when (s && not i) (fault_at NoSuchInput c)) _ _
      (append_right (when (i && not m) (fault_at Early c)) _ _ (is_when (i && (m && not p)) _ (and_from i (m && not p) e (and_from m (not p) f (ap not g))))))

module _ (o d r : Bool) (c : Counted) where
  range_in : o ≡ true → Has (number_faults o d r c) (fault_at NumberRange c)
  range_in e = append_left (when o (fault_at NumberRange c)) _ _ (is_when o _ e)

  disagrees_in : d ≡ true → Has (number_faults o d r c) (fault_at CountDisagrees c)
  disagrees_in e = append_right (when o (fault_at NumberRange c)) _ _ (append_left (when d (fault_at CountDisagrees c)) _ _ (is_when d _ e))

  repeated_in : r ≡ true → Has (number_faults o d r c) (fault_at Repeated c)
  repeated_in e = append_right (when o (fault_at NumberRange c)) _ _ (append_right (when d (fault_at CountDisagrees c)) _ _ (is_when r _ e))

false_from : (b : Bool) → (b ≡ true → ⊥) → b ≡ false
false_from false n = refl
false_from true n = absurd (n refl)

abbrev fault_of : OutputKind → Place → ℕ → Option Place → OutputFault
fault_of k s o p = record { source = s; output = o; kind = k; at = p }

module _ (a : Application) where
  -- shown by a claim
  by_placed : (c : PlacedClaim) → Has a.claims c → (f : OutputFault) → Has (placed_at a c) f → Has (gathered a) f
  by_placed c h f k = append_left (flat_map (shown_at a) a.claims) (flat_map (lacking a) a.inputs) f (has_flat (shown_at a) a.claims c f h (append_left (placed_at a c) (numbered_at a c) f k))

  by_numbered : (c : PlacedClaim) → Has a.claims c → (f : OutputFault) → Has (numbered_at a c) f → Has (gathered a) f
  by_numbered c h f k = append_left (flat_map (shown_at a) a.claims) (flat_map (lacking a) a.inputs) f (has_flat (shown_at a) a.claims c f h (append_right (placed_at a c) (numbered_at a c) f k))

  by_input : (i : Place) → Has a.inputs i → (f : OutputFault) → Has (lacking a i) f → Has (gathered a) f
  by_input i h f k = append_right (flat_map (shown_at a) a.claims) (flat_map (lacking a) a.inputs) f (has_flat (lacking a) a.inputs i f h k)

  -- the fault is the claim's of that kind
  is_at : (f : OutputFault) (k : OutputKind) → f.kind ≡ k → (at : AtClaim a f) → fault_at k (counted at.claim) ≡ f
  is_at f k e at =
      ap (λ s. fault_of k s at.claim.output (Some at.claim.at)) at.source
      ∙ (ap (λ o. fault_of k f.source o (Some at.claim.at)) at.output
      ∙ (ap (fault_of k f.source f.output) (sym at.at) ∙ ap (λ l. fault_of l f.source f.output f.at) (sym e)))

  at_fault : (f : OutputFault) (k : OutputKind) → f.kind ≡ k → (at : AtClaim a f) → Has (gathered a) (fault_at k (counted at.claim)) → Has (gathered a) f
  at_fault f k e at h = subst (Has (gathered a)) (is_at f k e at) h

  not_committed : (i : Place) → committed_offset a.commits i.partition ≤ℤ pos i.offset → is_committed a i ≡ false
  not_committed i le = false_from (is_committed a i) (λ e. let l = less_is (pos i.offset) (committed_offset a.commits i.partition) e in omega (arith, ints, l, le))

  is_below : (i : Place) → IsBelow a i → is_committed a i ≡ true
  is_below i b = is_less_int (pos i.offset) (committed_offset a.commits i.partition) b.below

  disagrees_whole : AreApart a → (c t : PlacedClaim) → Has a.claims c → IsLeastClaim a c.source t → c.of ≢ t.of → disagrees (first_of a.claims c.source) c.of ≡ true
  disagrees_whole apart c t h l d = go (first_of a.claims c.source) refl
    where
      go : (w : Option PlacedClaim) → first_of a.claims c.source ≡ w → disagrees w c.of ≡ true
      go None e = absurd (by_least (names c.source) number_total a.claims None e c h (true_same_place c.source c.source refl))
      go (Some u) e =
          let first = first_is a c.source u (by_least (names c.source) number_total a.claims (Some u) e) in
          let same : t ≡ u = one_first a apart c.source t u l first in
          unequal c.of u.of (λ q. d (q ∙ ap (λ (z : PlacedClaim). z.of) (sym same)))

  repeated_whole : (c d : PlacedClaim) → Has a.claims c → Names a c.source d → d.output ≡ c.output → place_cmp d.at c.at ≡ Less → is_repeated (first_at a.claims c.source c.output) c.at ≡ true
  repeated_whole c d h n e l = go (first_at a.claims c.source c.output) refl
    where
      go : (w : Option PlacedClaim) → first_at a.claims c.source c.output ≡ w → is_repeated w c.at ≡ true
      go None q = absurd (by_least (is_numbered c.source c.output) at_total a.claims None q d n.has (is_numbered_by c.source c.output d n.source e))
      go (Some u) q =
          let least = by_least (is_numbered c.source c.output) at_total a.claims (Some u) q in
          less_lt (place_cmp u.at c.at) (place_less u.at d.at c.at (least.least d n.has (is_numbered_by c.source c.output d n.source e)) l)

  -- ---- at an input

  -- two tops of an input are one
  one_top : AreApart a → (i : Place) (m n : ℕ) → IsTop a i m → IsTop a i n → m ≡ n
  one_top apart i m n (inl x) (inl y) = sym x.2 ∙ (ap (λ (z : PlacedClaim). z.of) (one_first a apart i x.0 y.0 x.1 y.1) ∙ y.2)
  one_top apart i m n (inl x) (inr y) = absurd (y.0 x.0 x.1.names)
  one_top apart i m n (inr x) (inl y) = absurd (x.0 y.0 y.1.names)
  one_top apart i m n (inr x) (inr y) = x.1 ∙ sym y.1

  -- a number that no claim has isn't there
  not_there : (i : Place) (n : ℕ) → ((c : PlacedClaim) → Names a i c → c.output ≢ n) → is_there a.claims i n ≡ false
  not_there i n absent = go (first_at a.claims i n) refl
    where
      go : (w : Option PlacedClaim) → first_at a.claims i n ≡ w → is_some w ≡ false
      go None e = refl
      go (Some c) e =
          let l = by_least (is_numbered i n) at_total a.claims (Some c) e in
          let r = numbered_is a.claims i n c l.has l.holds in
          absurd (absent c (record { has = r.has; source = r.source }) r.output)

  is_missing : (f : OutputFault) → f.kind ≡ Missing → f.at ≡ None → missing f.source f.output ≡ f
  is_missing f e n = ap (fault_of Missing f.source f.output) (sym n) ∙ ap (λ l. fault_of l f.source f.output f.at) (sym e)

  missing_whole : AreApart a → (f : OutputFault) → f.kind ≡ Missing → IsMissing a f → Has (gathered a) f ⊎ HasEarlier (gathered a) f
  missing_whole apart f e is = either (nat_less_or r.0 f.output)
    where
      i : Place
      i = f.source

      top : is.top ≡ top_of (first_of a.claims i)
      top = one_top apart i is.top (top_of (first_of a.claims i)) is.is_top (top_is a i (first_of a.claims i) refl)

      within : f.output < 1 + top_of (first_of a.claims i)
      within = let l = is.last in omega (arith, l, top)

      r : (m : ℕ) × (first_absent (is_there a.claims i) (top_of (first_of a.claims i)) 1 ≡ Some m) × (m ≤ f.output)
      r = absent_found (is_there a.claims i) (top_of (first_of a.claims i)) 1 f.output is.first within (not_there i f.output is.absent)

      first : Has (gathered a) (missing i r.0)
      first = by_input i is.below.input (missing i r.0) (has_if (is_committed a i) (lacks a.claims i) (missing i r.0) (is_below i is.below)
          (subst (λ o. Has (missing_at i o) (missing i r.0)) (sym r.1) (inl refl)))

      either : (r.0 < f.output) ⊎ (f.output ≤ r.0) → Has (gathered a) f ⊎ HasEarlier (gathered a) f
      either (inl l) = inr (missing i r.0, first, record { first = refl; second = e; source = refl }, l)
      either (inr g) =
          let le = r.2 in
          let same : r.0 ≡ f.output = omega (arith, le, g) in
          inl (subst (Has (gathered a)) (ap (missing i) same ∙ is_missing f e is.at) first)

  -- ---- all kinds

  pub whole : ReadsSources a → AreApart a → (f : OutputFault) (k : OutputKind) → f.kind ≡ k → StandsAs a f k → Has (gathered a) f ⊎ HasEarlier (gathered a) f
  whole reads apart f ForeignSource e st =
      let c = st.0.claim in
      let no : is_source a c.source ≡ false = false_from (is_source a c.source) (λ q. st.1 (subst (λ (p : Place). Has a.sources p.partition.topic) st.0.source (source_is a c.source q))) in
      inl (at_fault f ForeignSource e st.0 (by_placed c st.0.has _ (foreign_in _ _ _ _ (counted c) no)))
  whole reads apart f NoSuchInput e st =
      let c = st.0.claim in
      let yes : is_source a c.source ≡ true = is_source_has a c.source (subst (λ (p : Place). Has a.sources p.partition.topic) (sym st.0.source) st.1) in
      let no : is_input a c.source ≡ false = false_from (is_input a c.source) (λ q. st.2 (subst (Has a.inputs) st.0.source (input_is a c.source q))) in
      inl (at_fault f NoSuchInput e st.0 (by_placed c st.0.has _ (no_input_in _ _ _ _ (counted c) yes no)))
  whole reads apart f Early e st =
      let c = st.0.claim in
      let yes : is_input a c.source ≡ true = is_input_has a c.source (subst (Has a.inputs) (sym st.0.source) st.1) in
      let no : is_committed a c.source ≡ false = not_committed c.source (subst (λ (p : Place). committed_offset a.commits p.partition ≤ℤ pos p.offset) (sym st.0.source) st.2) in
      inl (at_fault f Early e st.0 (by_placed c st.0.has _ (early_in _ _ _ _ (counted c) yes no)))
  whole reads apart f OtherTransaction e st =
      let c = st.0.claim in
      let below : IsBelow a c.source = subst (IsBelow a) (sym st.0.source) st.1 in
      let no : is_passed a c ≡ false = false_from (is_passed a c) (λ q. st.2 (passed_is a c q)) in
      inl (at_fault f OtherTransaction e st.0 (by_placed c st.0.has _ (other_in _ _ _ _ (counted c) (is_input_has a c.source below.input) (is_below c.source below) no)))
  whole reads apart f NumberRange e st =
      let c = st.0.claim in
      let out : is_out_of_range c.of c.output ≡ true = is_out c.of c.output (subst (IsOutOfRange c.of) (sym st.0.output) st.1) in
      inl (at_fault f NumberRange e st.0 (by_numbered c st.0.has _ (range_in _ _ _ (counted c) out)))
  whole reads apart f CountDisagrees e st =
      let c = st.0.claim in
      let yes = disagrees_whole apart c st.1 st.0.has (subst (λ p. IsLeastClaim a p st.1) (sym st.0.source) st.2) st.3 in
      inl (at_fault f CountDisagrees e st.0 (by_numbered c st.0.has _ (disagrees_in _ _ _ (counted c) yes)))
  whole reads apart f Repeated e st =
      let c = st.0.claim in
      let names : Names a c.source st.1 = record { has = st.2.has; source = st.2.source ∙ sym st.0.source } in
      let yes = repeated_whole c st.1 st.0.has names (st.3 ∙ sym st.0.output) st.4 in
      inl (at_fault f Repeated e st.0 (by_numbered c st.0.has _ (repeated_in _ _ _ (counted c) yes)))
  whole reads apart f Missing e st = missing_whole apart f e st

  pub all_whole : ReadsSources a → AreApart a → (f : OutputFault) → Stands a f → Has (gathered a) f ⊎ HasEarlier (gathered a) f
  all_whole reads apart f st = whole reads apart f f.kind refl st

  -- ---- of the outputs that one input lacks, one

  not_claims : (k : OutputKind) (b : Bool) (c : PlacedClaim) (f : OutputFault) → Has (when b (fault_at k (counted c))) f → f.kind ≡ k
  not_claims k b c f h = ap (λ (z : OutputFault). z.kind) (sym (when_has b (fault_at k (counted c)) f h).1)

  no_placed : (c : PlacedClaim) (f : OutputFault) → f.kind ≡ Missing → Has (placed_at a c) f → ⊥
  no_placed c f e h = elim (append_cases (when (not (is_source a c.source)) (fault_at ForeignSource (counted c))) _ f h) [
    | inl x ↦ let q = sym e ∙ not_claims ForeignSource _ c f x in absurd cc
    | inr x ↦ elim (append_cases (when (is_source a c.source && not (is_input a c.source)) (fault_at NoSuchInput (counted c))) _ f x) [
      | inl y ↦ let q = sym e ∙ not_claims NoSuchInput _ c f y in absurd cc
      | inr y ↦ elim (append_cases (when (is_input a c.source && not (is_committed a c.source)) (fault_at Early (counted c))) _ f y) [
        | inl z ↦ let q = sym e ∙ not_claims Early _ c f z in absurd cc
        | inr z ↦ let q = sym e ∙ not_claims OtherTransaction _ c f z in absurd cc
      ]
    ]
  ]

  no_numbered : (c : PlacedClaim) (f : OutputFault) → f.kind ≡ Missing → Has (numbered_at a c) f → ⊥
  no_numbered c f e h = elim (append_cases (when (is_out_of_range c.of c.output) (fault_at NumberRange (counted c))) _ f h) [
    | inl x ↦ let q = sym e ∙ not_claims NumberRange _ c f x in absurd cc
    | inr x ↦ elim (append_cases (when (disagrees (first_of a.claims c.source) c.of) (fault_at CountDisagrees (counted c))) _ f x) [
      | inl y ↦ let q = sym e ∙ not_claims CountDisagrees _ c f y in absurd cc
      | inr y ↦ let q = sym e ∙ not_claims Repeated _ c f y in absurd cc
    ]
  ]

  -- the first output that its source lacks
  lacks_it : (f : OutputFault) → f.kind ≡ Missing → Has (gathered a) f → Has (lacks a.claims f.source) f
  lacks_it f e h = elim (append_cases (flat_map (shown_at a) a.claims) (flat_map (lacking a) a.inputs) f h) [
    | inl x ↦
        let c = flat_has (shown_at a) a.claims f x in
        elim (append_cases (placed_at a c.0) (numbered_at a c.0) f c.2) [ inl y ↦ absurd (no_placed c.0 f e y) | inr y ↦ absurd (no_numbered c.0 f e y) ]
    | inr x ↦
        let i = flat_has (lacking a) a.inputs f x in
        let k = (if_has (is_committed a i.0) (lacks a.claims i.0) f i.2).1 in
        subst (λ z. Has (lacks a.claims z) f) (source_is_here i.0 (first_absent (is_there a.claims i.0) (top_of (first_of a.claims i.0)) 1) k) k
  ]
    where
      source_is_here : (i : Place) (o : Option ℕ) → Has (missing_at i o) f → i ≡ f.source
      source_is_here i None h = absurd h
      source_is_here i (Some n) h = ap (λ (z : OutputFault). z.source) (only (missing i n) f h)

  one_of : (i : Place) (o : Option ℕ) (f g : OutputFault) → Has (missing_at i o) f → Has (missing_at i o) g → f ≡ g
  one_of i None f g h k = absurd h
  one_of i (Some n) f g h k = sym (only (missing i n) f h) ∙ only (missing i n) g k

  pub one_missing : (f g : OutputFault) → Has (gathered a) f → Has (gathered a) g → OfOneInput f g → f ≡ g
  one_missing f g h k of =
      let i = g.source in
      one_of i (first_absent (is_there a.claims i) (top_of (first_of a.claims i)) 1) f g (subst (λ z. Has (lacks a.claims z) f) of.source (lacks_it f of.first h)) (lacks_it g of.second k)
