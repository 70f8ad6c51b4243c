-- Each candidate goes after a fault that stands.
use Rattle.std.proofs.Common.{◌≡◌, ◌≢◌, ◌+◌, ◌<◌, pos, List, [], ◌∷◌, ◌++◌, flat_map, refl, sym, subst, ap, ◌∙◌, inl, inr, ◌⊎◌, true, false, Bool, not, ◌&&◌, if◌then◌else◌, arith}
use Rattle.std.specs.Prelude.{nat_lt, ◌==◌}
use Rattle.std.specs.List.{list_any}
use Rattle.std.specs.Ordering.{is_eq, is_lt, is_gt}
use Rattle.std.proofs.lemmas.Bool.{eqb-true, ltb-true}
use Rattle.eos_base.specs.Members.{Has}
use Rattle.eos_base.specs.Least.{UpTo}
use Rattle.eos_base.proofs.Decides.{nat_decided}
use Rattle.eos_base.proofs.LeastOf.{upto_itself}
use Rattle.eos_base.proofs.Membership.{append_cases, flat_has, if_has, only}
use Rattle.eos_claims.specs.declared.place.Place.{Place}
use Rattle.eos_claims.specs.declared.fault.OutputFault.{OutputFault}
use Rattle.eos_claims.specs.declared.fault.OutputKind.{OutputKind}
use Rattle.eos_claims.specs.declared.fault.OutputKind.TheVariants.{ForeignSource, NoSuchInput, Early, CountDisagrees, NumberRange, Repeated, OtherTransaction}
use Rattle.eos_claims.specs.Outputs.{PlacedClaim, Application, committed_offset, IsBelow, Names}
use Rattle.eos_claims.specs.Faults.{place_cmp, fault_cmp, IsLeastClaim, Stands}
use Rattle.eos_claims.specs.Candidates.{in_run as run_of, Counted, counted, claim_cmp, fault_at, missing, when, at_start, at_end, between, runs, shown, shown_by, is_source, is_input, is_committed, is_out_of_range, is_passed, names, unclaimed, candidates, AreBelow}
use Rattle.eos_claims.proofs.ClaimOrder.{in_run, outputs_rise, sandwich, same_number, fault_upto, same_place_true, same_place_false, is_less, both_from, not_eq}
use Rattle.eos_claims.proofs.ClaimTests.{source_is, is_source_has, input_is, is_input_has, not_less_int, below_is, out_is, is_passed_by, less_is, is_claimed}
use Rattle.eos_claims.proofs.FaultOrder.{fault_total, claim_total}
use Rattle.eos_claims.proofs.NeighbourLists.{Adjacent, adjacent_has, adjacent_up, head_has, head_low, last_has, last_high, not_between}
use Rattle.eos_claims.proofs.OutputsLaw.{at_claim, least_claim}
use Rattle.eos_claims.proofs.RunMembers.{runs_has}

-- something stands, and goes before it
pub record Before (a : Application) (f : OutputFault) : Type 0 where
  pub fault : OutputFault
  pub stands : Stands a fault
  pub upto : UpTo fault_cmp fault f

pub itself : (a : Application) (f : OutputFault) → Stands a f → Before a f
itself a f s = record { fault = f; stands = s; upto = upto_itself fault_total f }

pub when_has : (b : Bool) (f g : OutputFault) → Has (when b f) g → (b ≡ true) × (f ≡ g)
when_has b f g h = let r = if_has b (f ∷ []) g h in (r.0, only f g r.1)

-- the least claim of a claim's source
module _ (a : Application) where
  pub least_beside : (c : PlacedClaim) → Has a.claims c → (t : PlacedClaim) × IsLeastClaim a c.source t
  least_beside c h = elim (least_claim a c.source) [
    | inl r ↦ r
    | inr none ↦ absurd (none c (record { has = h; source = refl }))
  ]

  -- a claim that says another count than the least
  disagrees : (c t : PlacedClaim) → Has a.claims c → IsLeastClaim a c.source t → c.of ≢ t.of → Stands a (fault_at CountDisagrees (counted c))
  disagrees c t h l n = (at_claim a c CountDisagrees h, t, l, n)

  sound_disagrees : (p c : PlacedClaim) → Has a.claims p → Has a.claims c → p.source ≡ c.source → UpTo claim_cmp (counted p) (counted c) → p.of ≢ c.of
      → Before a (fault_at CountDisagrees (counted c))
  sound_disagrees p c hp hc s u n =
      let t = least_beside c hc in
      elim (nat_decided c.of t.0.of) [
        | inr m ↦ itself a (fault_at CountDisagrees (counted c)) (disagrees c t.0 hc t.1 m)
        | inl e ↦ record {
          fault = fault_at CountDisagrees (counted p);
          stands = disagrees p t.0 hp (subst (λ i. IsLeastClaim a i t.0) (sym s) t.1) (λ q. n (q ∙ sym e));
          upto = fault_upto (fault_at CountDisagrees (counted p)) (fault_at CountDisagrees (counted c)) s
              (elim (in_run (counted p) (counted c) u s) [ inl l ↦ inl l | inr r ↦ inr (r.0, inr (refl, r.1)) ]);
        }
      ]

  sound_repeated : (p c : PlacedClaim) → Has a.claims p → Has a.claims c → p.source ≡ c.source → p.output ≡ c.output → is_lt (place_cmp p.at c.at) ≡ true
      → Before a (fault_at Repeated (counted c))
  sound_repeated p c hp hc s o l = itself a (fault_at Repeated (counted c)) (at_claim a c Repeated hc, p, record { has = hp; source = s }, o, is_less (place_cmp p.at c.at) l)

  -- no claim has the next number
  sound_gap : (p : PlacedClaim) → Has a.claims p → IsBelow a p.source → p.output < p.of
      → ((d : PlacedClaim) → Has a.claims d → d.source ≡ p.source → d.output ≢ p.output + 1) → Before a (missing p.source (p.output + 1))
  sound_gap p h below l absent =
      let t = least_beside p h in
      elim (nat_decided p.of t.0.of) [
        | inr m ↦ record {
          fault = fault_at CountDisagrees (counted p);
          stands = disagrees p t.0 h t.1 m;
          upto = fault_upto (fault_at CountDisagrees (counted p)) (missing p.source (p.output + 1)) refl (inl (omega arith));
        }
        | inl e ↦ itself a (missing p.source (p.output + 1)) (record {
          below = below;
          top = t.0.of;
          is_top = inl (t.0, t.1, refl);
          first = omega arith;
          last = omega (arith, e, l);
          absent = λ d n. absent d n.has n.source;
          at = refl;
        })
      ]

  -- the first claim of a source has a number above 1
  sound_start : (c : PlacedClaim) → Has a.claims c → IsBelow a c.source → 1 < c.output → 0 < c.of
      → ((d : PlacedClaim) → Has a.claims d → d.source ≡ c.source → UpTo claim_cmp (counted c) (counted d)) → Before a (missing c.source 1)
  sound_start c h below o n low = itself a (missing c.source 1) (record {
    below = below;
    top = c.of;
    is_top = inl (c, record { names = record { has = h; source = refl }; least = λ d m. subst (λ w. is_gt w ≡ false) (same_number c d (sym m.source)) (low d m.has m.source) }, refl);
    first = omega arith;
    last = omega arith;
    absent = λ d m e. let r = outputs_rise (counted c) (counted d) (low d m.has m.source) (sym m.source) in absurd (omega (arith, r, o, e));
    at = refl;
  })

-- ---- what the walk shows

record Claimed (a : Application) (n : Counted) : Type 0 where
  claim : PlacedClaim
  has : Has a.claims claim
  is : counted claim ≡ n
  below : IsBelow a claim.source

claimed : (a : Application) (cs : List Counted) → AreBelow a cs → (n : Counted) → Has cs n → Claimed a n
claimed a cs b n h = let r = b.sound n h in record { claim = r.0; has = r.1; is = r.2; below = r.3 }

-- each claim of the source of one that stands in the list stands there too
there : (a : Application) (cs : List Counted) → AreBelow a cs → (n : Counted) → Has cs n → (d : PlacedClaim) → Has a.claims d → d.source ≡ n.source → Has cs (counted d)
there a cs b n h d k e =
    let c = claimed a cs b n h in
    b.whole d k (subst (IsBelow a) (ap (λ m. m.source) c.is ∙ sym e) c.below)

sound_at_start : (a : Application) (cs : List Counted) → AreBelow a cs → (y : Counted) → Has cs y
    → ((d : Counted) → Has cs d → d.source ≡ y.source → UpTo claim_cmp y d) → (f : OutputFault) → Has (at_start y) f → Before a f
sound_at_start a cs b y h low f k =
    let c = claimed a cs b y h in
    let w = when_has (nat_lt 1 y.output && nat_lt 0 y.of) (missing y.source 1) f k in
    let t = both_from (nat_lt 1 y.output) (nat_lt 0 y.of) w.0 in
    subst (Before a) w.1 (go y c.claim c.has c.is c.below low h (ltb-true 1 y.output t.0) (ltb-true 0 y.of t.1))
  where
    go : (y : Counted) (c : PlacedClaim) → Has a.claims c → counted c ≡ y → IsBelow a c.source → ((d : Counted) → Has cs d → d.source ≡ y.source → UpTo claim_cmp y d) → Has cs y
        → 1 < y.output → 0 < y.of → Before a (missing y.source 1)
    go y c hc e below low h o n = subst (λ z. Before a (missing z.source 1)) e
        (sound_start a c hc below (subst (λ (z : Counted). 1 < z.output) (sym e) o) (subst (λ (z : Counted). 0 < z.of) (sym e) n)
        (λ d k s. subst (λ z. UpTo claim_cmp z (counted d)) (sym e) (low (counted d) (there a cs b y h d k (s ∙ ap (λ (m : Counted). m.source) e)) (s ∙ ap (λ (m : Counted). m.source) e))))

-- a gap behind a claim: no other one of its source has the next number
sound_behind : (a : Application) (cs : List Counted) → AreBelow a cs → (y : Counted) → Has cs y → y.output < y.of
    → ((d : Counted) → Has cs d → d.source ≡ y.source → d.output ≢ y.output + 1) → Before a (missing y.source (y.output + 1))
sound_behind a cs b y h l absent = let c = claimed a cs b y h in go c.claim c.has c.is c.below
  where
    go : (c : PlacedClaim) → Has a.claims c → counted c ≡ y → IsBelow a c.source → Before a (missing y.source (y.output + 1))
    go c hc e below = subst (λ (z : Counted). Before a (missing z.source (z.output + 1))) e
        (sound_gap a c hc below (subst (λ (z : Counted). z.output < z.of) (sym e) l)
        (λ d k s. subst (λ (z : Counted). d.output ≢ z.output + 1) (sym e) (absent (counted d) (there a cs b y h d k (s ∙ ap (λ (m : Counted). m.source) e)) (s ∙ ap (λ (m : Counted). m.source) e))))

sound_at_end : (a : Application) (cs : List Counted) → AreBelow a cs → (y : Counted) → Has cs y
    → ((d : Counted) → Has cs d → d.source ≡ y.source → UpTo claim_cmp d y) → (f : OutputFault) → Has (at_end y) f → Before a f
sound_at_end a cs b y h high f k =
    let w = when_has (nat_lt y.output y.of) (missing y.source (y.output + 1)) f k in
    subst (Before a) w.1 (sound_behind a cs b y h (ltb-true y.output y.of w.0)
    (λ d m s e. let r = outputs_rise d y (high d m s) s in absurd (omega (arith, r, e))))

-- of neighbours of two sources, none of the first one's source is behind, and none of the second one's before
sound_between : (a : Application) (cs : List Counted) → AreBelow a cs → (y z : Counted) → Adjacent cs y z → (f : OutputFault) → Has (between y z) f → Before a f
sound_between a cs b y z h f k = go (is_eq (place_cmp y.source z.source)) refl k
  where
    up : UpTo claim_cmp y z
    up = adjacent_up claim_total cs b.in_order y z h

    has : Has cs y × Has cs z
    has = adjacent_has cs y z h

    sides : (d : Counted) → Has cs d → UpTo claim_cmp d y ⊎ UpTo claim_cmp z d
    sides d m = not_between claim_total cs b.in_order y z h d m

    same : y.source ≡ z.source → Has (run_of y z) f → Before a f
    same s k = elim (append_cases (when (not (y.of == z.of)) (fault_at CountDisagrees z)) _ f k) [
      | inl d ↦ disagree d
      | inr r ↦ elim (append_cases (when ((y.output == z.output) && is_lt (place_cmp y.at z.at)) (fault_at Repeated z)) _ f r) [ inl d ↦ repeated d | inr g ↦ gap g ]
    ]
      where
        disagree : Has (when (not (y.of == z.of)) (fault_at CountDisagrees z)) f → Before a f
        disagree k =
            let w = when_has (not (y.of == z.of)) (fault_at CountDisagrees z) f k in
            let p = claimed a cs b y has.0 in
            let c = claimed a cs b z has.1 in
            subst (Before a) w.1 (two p.claim c.claim p.has c.has p.is c.is (not_eq y.of z.of w.0))
          where
            two : (p c : PlacedClaim) → Has a.claims p → Has a.claims c → counted p ≡ y → counted c ≡ z → y.of ≢ z.of → Before a (fault_at CountDisagrees z)
            two p c hp hc e g n = subst (λ z. Before a (fault_at CountDisagrees z)) g
                (sound_disagrees a p c hp hc (ap (λ (m : Counted). m.source) e ∙ (s ∙ sym (ap (λ (m : Counted). m.source) g)))
                (subst (λ v. UpTo claim_cmp v (counted c)) (sym e) (subst (λ v. UpTo claim_cmp y v) (sym g) up))
                (λ q. n (sym (ap (λ (m : Counted). m.of) e) ∙ (q ∙ ap (λ (m : Counted). m.of) g))))

        repeated : Has (when ((y.output == z.output) && is_lt (place_cmp y.at z.at)) (fault_at Repeated z)) f → Before a f
        repeated k =
            let w = when_has ((y.output == z.output) && is_lt (place_cmp y.at z.at)) (fault_at Repeated z) f k in
            let t = both_from (y.output == z.output) (is_lt (place_cmp y.at z.at)) w.0 in
            let p = claimed a cs b y has.0 in
            let c = claimed a cs b z has.1 in
            subst (Before a) w.1 (two p.claim c.claim p.has c.has p.is c.is (eqb-true y.output z.output t.0) t.1)
          where
            two : (p c : PlacedClaim) → Has a.claims p → Has a.claims c → counted p ≡ y → counted c ≡ z → y.output ≡ z.output → is_lt (place_cmp y.at z.at) ≡ true → Before a (fault_at Repeated z)
            two p c hp hc e g o l = subst (λ z. Before a (fault_at Repeated z)) g
                (sound_repeated a p c hp hc (ap (λ (m : Counted). m.source) e ∙ (s ∙ sym (ap (λ (m : Counted). m.source) g)))
                (ap (λ (m : Counted). m.output) e ∙ (o ∙ sym (ap (λ (m : Counted). m.output) g)))
                (ap (λ (m : Counted). is_lt (place_cmp m.at c.at)) e ∙ (ap (λ (m : Counted). is_lt (place_cmp y.at m.at)) g ∙ l)))

        gap : Has (when (nat_lt (y.output + 1) z.output && nat_lt y.output y.of) (missing y.source (y.output + 1))) f → Before a f
        gap k =
            let w = when_has (nat_lt (y.output + 1) z.output && nat_lt y.output y.of) (missing y.source (y.output + 1)) f k in
            let t = both_from (nat_lt (y.output + 1) z.output) (nat_lt y.output y.of) w.0 in
            let far = ltb-true (y.output + 1) z.output t.0 in
            subst (Before a) w.1 (sound_behind a cs b y has.0 (ltb-true y.output y.of t.1)
            (λ d m q e. elim (sides d m) [
              | inl u ↦ let r = outputs_rise d y u q in absurd (omega (arith, r, e))
              | inr u ↦ let r = outputs_rise z d u (sym (q ∙ s)) in absurd (omega (arith, r, e, far))
            ]))

    other : y.source ≢ z.source → Has (at_end y ++ at_start z) f → Before a f
    other n k = elim (append_cases (at_end y) (at_start z) f k) [
      | inl e ↦ sound_at_end a cs b y has.0 (λ d m s. elim (sides d m) [ inl u ↦ u | inr u ↦ absurd (n (sym (sandwich y z d up u (sym s)))) ]) f e
      | inr e ↦ sound_at_start a cs b z has.1 (λ d m s. elim (sides d m) [ inl u ↦ absurd (n (before d u s)) | inr u ↦ u ]) f e
    ]
      where
        before : (d : Counted) → UpTo claim_cmp d y → d.source ≡ z.source → y.source ≡ z.source
        before d u s = sandwich d y z u up s ∙ s

    go : (t : Bool) → is_eq (place_cmp y.source z.source) ≡ t → Has (if t then run_of y z else at_end y ++ at_start z) f → Before a f
    go true e k = same (same_place_true y.source z.source e) k
    go false e k = other (same_place_false y.source z.source e) k

sound_runs : (a : Application) (cs : List Counted) → AreBelow a cs → (f : OutputFault) → Has (runs cs) f → Before a f
sound_runs a cs b f h = elim (runs_has cs f h) [
  | inl r ↦ sound_at_start a cs b r.0 (head_has cs r.0 r.1) (λ d m s. head_low claim_total cs b.in_order r.0 d r.1 m) f r.2
  | inr r ↦ elim r [
    | inl n ↦ sound_between a cs b n.0 n.1 n.2 f n.3
    | inr l ↦ sound_at_end a cs b l.0 (last_has cs l.0 l.1) (λ d m s. last_high claim_total cs b.in_order l.0 d l.1 m) f l.2
  ]
]

-- ---- what a claim shows by itself, and what an input that nothing claims

sound_shown : (a : Application) (c : PlacedClaim) → Has a.claims c → (f : OutputFault) → Has (shown_by a c) f → Before a f
sound_shown a c h f k = go (is_source a c.source) refl (is_input a c.source) refl (is_committed a c.source) refl k
  where
    one : (kind : OutputKind) → Stands a (fault_at kind (counted c)) → Has (fault_at kind (counted c) ∷ []) f → Before a f
    one kind s k = subst (Before a) (only (fault_at kind (counted c)) f k) (itself a (fault_at kind (counted c)) s)

    no_source : is_source a c.source ≡ false → Has a.sources c.source.partition.topic → ⊥
    no_source e q = let r = sym e ∙ is_source_has a c.source q in absurd cc

    no_input : is_input a c.source ≡ false → Has a.inputs c.source → ⊥
    no_input e q = let r = sym e ∙ is_input_has a c.source q in absurd cc

    rest : IsBelow a c.source → Has (when (is_out_of_range c.of c.output) (fault_at NumberRange (counted c)) ++ when (not (is_passed a c)) (fault_at OtherTransaction (counted c))) f → Before a f
    rest below k = elim (append_cases (when (is_out_of_range c.of c.output) (fault_at NumberRange (counted c))) _ f k) [
      | inl r ↦ let w = when_has (is_out_of_range c.of c.output) (fault_at NumberRange (counted c)) f r in
          subst (Before a) w.1 (itself a (fault_at NumberRange (counted c)) (at_claim a c NumberRange h, out_is c.of c.output w.0))
      | inr r ↦ let w = when_has (not (is_passed a c)) (fault_at OtherTransaction (counted c)) f r in
          subst (Before a) w.1 (itself a (fault_at OtherTransaction (counted c)) (at_claim a c OtherTransaction h, below, λ p. is_not (is_passed a c) (is_passed_by a c p) w.0))
    ]
      where
        is_not : (b : Bool) → b ≡ true → not b ≡ true → ⊥
        is_not true e n = absurd cc
        is_not false e n = absurd cc

    go : (s : Bool) → is_source a c.source ≡ s → (i : Bool) → is_input a c.source ≡ i → (m : Bool) → is_committed a c.source ≡ m
        → Has (shown s i m (is_out_of_range c.of c.output) (is_passed a c) (counted c)) f → Before a f
    go false es i ei m em k = one ForeignSource (at_claim a c ForeignSource h, no_source es) k
    go true es false ei m em k = one NoSuchInput (at_claim a c NoSuchInput h, source_is a c.source es, no_input ei) k
    go true es true ei false em k = one Early (at_claim a c Early h, input_is a c.source ei, not_less_int (pos c.source.offset) (committed_offset a.commits c.source.partition) em) k
    go true es true ei true em k = rest (below_is a c.source ei em) k

sound_unclaimed : (a : Application) (i : Place) → Has a.inputs i → (f : OutputFault) → Has (unclaimed a i) f → Before a f
sound_unclaimed a i h f k =
    let w = when_has (is_committed a i && not (list_any (names i) a.claims)) (missing i 1) f k in
    let t = both_from (is_committed a i) (not (list_any (names i) a.claims)) w.0 in
    let none : (c : PlacedClaim) → Names a i c → ⊥ = λ c n. is_not (list_any (names i) a.claims) (is_claimed a i c n) t.1 in
    subst (Before a) w.1 (itself a (missing i 1) (record {
      below = record { input = h; below = less_is (pos i.offset) (committed_offset a.commits i.partition) t.0 };
      top = 1;
      is_top = inr (none, refl);
      first = omega arith;
      last = omega arith;
      absent = λ c n e. none c n;
      at = refl;
    }))
  where
    is_not : (b : Bool) → b ≡ true → not b ≡ true → ⊥
    is_not true e n = absurd cc
    is_not false e n = absurd cc

pub sound : (a : Application) (cs : List Counted) → AreBelow a cs → (f : OutputFault) → Has (candidates a cs) f → Before a f
sound a cs b f h = elim (append_cases (flat_map (shown_by a) a.claims) _ f h) [
  | inl k ↦ let r = flat_has (shown_by a) a.claims f k in sound_shown a r.0 r.1 f r.2
  | inr k ↦ elim (append_cases (runs cs) (flat_map (unclaimed a) a.inputs) f k) [
    | inl r ↦ sound_runs a cs b f r
    | inr u ↦ let r = flat_has (unclaimed a) a.inputs f u in sound_unclaimed a r.0 r.1 f r.2
  ]
]
