-- Each fault that stands goes after a candidate, so the least candidate is the least fault.
use Rattle.std.proofs.Common.{◌≡◌, ◌≢◌, ℕ, ◌+◌, ◌≤◌, ◌<◌, pos, ◌≤ℤ◌, List, [], ◌∷◌, ◌++◌, flat_map, fold, Option, Some, None, refl, sym, subst, ap, ◌∙◌, inl, inr, ◌⊎◌, true, false, Bool, not, ◌&&◌, if◌then◌else◌, arith}
use Rattle.std.specs.Prelude.{nat_lt, ◌==◌}
use Rattle.std.specs.List.{list_any}
use Rattle.std.specs.Ordering.{is_eq, is_lt, is_gt}
use Rattle.std.specs.declared.cmp.Ordering.{Ordering}
use Rattle.std.specs.declared.cmp.Ordering.TheVariants.{Less, Equal, Greater}
use Rattle.std.proofs.lemmas.Bool.{eqb-true, eq-eqb, lt-ltb, and_from}
use Rattle.std.proofs.lemmas.Int.{ints}
use Rattle.eos_base.specs.Members.{Has}
use Rattle.eos_base.specs.steps.Decided.{Decided}
use Rattle.eos_base.specs.Least.{UpTo, IsLeastOrNone, lesser_of}
use Rattle.eos_base.proofs.Decides.{both, nat_decided}
use Rattle.eos_base.proofs.LeastOf.{upto_itself, upto_trans, least_by_candidates}
use Rattle.eos_base.proofs.Membership.{append_left, append_right, has_flat, has_if}
use Rattle.eos_claims.specs.declared.place.Place.{Place}
use Rattle.eos_claims.specs.declared.fault.OutputFault.{OutputFault}
use Rattle.eos_claims.specs.declared.fault.OutputKind.{OutputKind}
use Rattle.eos_claims.specs.declared.fault.OutputKind.TheVariants.{ForeignSource, NoSuchInput, Early, CountDisagrees, NumberRange, Repeated, Missing, OtherTransaction}
use Rattle.eos_claims.specs.Outputs.{PlacedClaim, Application, ReadsSources, committed_offset, IsBelow, Names, IsPassed}
use Rattle.eos_claims.specs.Faults.{place_cmp, fault_cmp, IsLeastClaim, AtClaim, IsOutOfRange, IsTop, StandsAs, Stands}
use Rattle.eos_claims.specs.Candidates.{Counted, counted, claim_cmp, fault_at, missing, when, at_start, at_end, in_run as run_of, runs, shown, shown_by, is_source, is_input, is_committed, is_out_of_range, is_passed, names, unclaimed, candidates, AreBelow, AreApart}
use Rattle.eos_claims.proofs.CandidatesSound.{sound}
use Rattle.eos_claims.proofs.ClaimOrder.{LaterKind, in_run, nat_tied, outputs_rise, sandwich, same_number, fault_upto, same_place_true, true_same_place, place_tied}
use Rattle.eos_claims.proofs.ClaimTests.{source_is, is_source_has, input_is, is_input_has, not_less_int, is_less_int, below_is, is_out, passed_is, claimed_is}
use Rattle.eos_claims.proofs.FaultOrder.{kind_cmp, kind_total, kind_exact, fault_total, fault_exact, claim_total, claim_tied, place_exact, place_total}
use Rattle.eos_claims.proofs.NeighbourLists.{Adjacent, IsHead, IsLast, adjacent_has, adjacent_up, head_has, change, first_of, last_of}
use Rattle.eos_claims.proofs.OutputsLaw.{place_decided, nat_less_or}
use Rattle.eos_claims.proofs.RunMembers.{has_start, has_between, has_end}

-- a candidate that goes before it
pub record Candidate (a : Application) (cs : List Counted) (f : OutputFault) : Type 0 where
  pub fault : OutputFault
  pub has : Has (candidates a cs) fault
  pub upto : UpTo fault_cmp fault f

module _ (a : Application) (cs : List Counted) where
  earlier : (f g : OutputFault) → Candidate a cs f → UpTo fault_cmp f g → Candidate a cs g
  earlier f g c u = record { fault = c.fault; has = c.has; upto = upto_trans fault_total c.fault f g c.upto u }

  by_claim : (c : PlacedClaim) → Has a.claims c → (x f : OutputFault) → Has (shown_by a c) x → UpTo fault_cmp x f → Candidate a cs f
  by_claim c h x f k u = record { fault = x; has = append_left (flat_map (shown_by a) a.claims) _ x (has_flat (shown_by a) a.claims c x h k); upto = u }

  by_run : (x f : OutputFault) → Has (runs cs) x → UpTo fault_cmp x f → Candidate a cs f
  by_run x f k u = record { fault = x; has = append_right (flat_map (shown_by a) a.claims) _ x (append_left (runs cs) _ x k); upto = u }

  by_input : (i : Place) → Has a.inputs i → (x f : OutputFault) → Has (unclaimed a i) x → UpTo fault_cmp x f → Candidate a cs f
  by_input i h x f k u = record { fault = x; has = append_right (flat_map (shown_by a) a.claims) _ x (append_right (runs cs) _ x (has_flat (unclaimed a) a.inputs i x h k)); upto = u }

  is_when : (b : Bool) (f : OutputFault) → b ≡ true → Has (when b f) f
  is_when b f e = has_if b (f ∷ []) f e (inl refl)

  -- a fault at a claim of a source and number goes after what the claim shows of a lesser kind
  at_kind : (c : PlacedClaim) (k l : OutputKind) → UpTo kind_cmp k l → UpTo fault_cmp (fault_at k (counted c)) (fault_at l (counted c))
  at_kind c k l up = fault_upto (fault_at k (counted c)) (fault_at l (counted c)) refl (inr (refl, kinds (kind_cmp k l) refl up))
    where
      kinds : (r : Ordering) → kind_cmp k l ≡ r → is_gt r ≡ false → LaterKind k l (Some c.at) (Some c.at)
      kinds Less e u = inl e
      kinds Equal e u = inr (kind_exact k l e, upto_itself place_total c.at)
      kinds Greater e u = absurd cc

  -- a claim whose input isn't below shows one of the first three kinds
  not_below : (c : PlacedClaim) → Has a.claims c → (IsBelow a c.source → ⊥) → (l : OutputKind) → UpTo kind_cmp Early l → Candidate a cs (fault_at l (counted c))
  not_below c h n l up = go (is_source a c.source) refl (is_input a c.source) refl (is_committed a c.source) refl
    where
      shows : (s i m : Bool) → is_source a c.source ≡ s → is_input a c.source ≡ i → is_committed a c.source ≡ m → (x : OutputFault)
          → Has (shown s i m (is_out_of_range c.of c.output) (is_passed a c) (counted c)) x → Has (shown_by a c) x
      shows s i m es ei em x k = rw (es, ei, em) k

      go : (s : Bool) → is_source a c.source ≡ s → (i : Bool) → is_input a c.source ≡ i → (m : Bool) → is_committed a c.source ≡ m → Candidate a cs (fault_at l (counted c))
      go false es i ei m em = by_claim c h (fault_at ForeignSource (counted c)) (fault_at l (counted c)) (shows false i m es ei em _ (inl refl)) (at_kind c ForeignSource l (upto_trans kind_total ForeignSource Early l refl up))
      go true es false ei m em = by_claim c h (fault_at NoSuchInput (counted c)) (fault_at l (counted c)) (shows true false m es ei em _ (inl refl)) (at_kind c NoSuchInput l (upto_trans kind_total NoSuchInput Early l refl up))
      go true es true ei false em = by_claim c h (fault_at Early (counted c)) (fault_at l (counted c)) (shows true true false es ei em _ (inl refl)) (at_kind c Early l up)
      go true es true ei true em = absurd (n (below_is a c.source ei em))

  below_or : (i : Place) → Decided (IsBelow a i)
  below_or i = go (is_input a i) refl (is_committed a i) refl
    where
      go : (b : Bool) → is_input a i ≡ b → (m : Bool) → is_committed a i ≡ m → Decided (IsBelow a i)
      go true e true f = inl (below_is a i e f)
      go true e false f = inr (λ h. let l = h.below in let q = not_less_int (pos i.offset) (committed_offset a.commits i.partition) f in absurd (omega (arith, ints, l, q)))
      go false e m f = inr (λ h. let q = sym e ∙ is_input_has a i h.input in absurd cc)

  shown_below : (c : PlacedClaim) → IsBelow a c.source → ReadsSources a → (x : OutputFault)
      → Has (when (is_out_of_range c.of c.output) (fault_at NumberRange (counted c)) ++ when (not (is_passed a c)) (fault_at OtherTransaction (counted c))) x → Has (shown_by a c) x
  shown_below c b reads x k =
      rw (is_source_has a c.source (reads c.source b.input), is_input_has a c.source b.input, is_less_int (pos c.source.offset) (committed_offset a.commits c.source.partition) b.below) k

  -- ---- kinds at one claim

  whole_foreign : (c : PlacedClaim) → Has a.claims c → (Has a.sources c.source.partition.topic → ⊥) → ReadsSources a → Candidate a cs (fault_at ForeignSource (counted c))
  whole_foreign c h n reads = go (is_source a c.source) refl
    where
      go : (s : Bool) → is_source a c.source ≡ s → Candidate a cs (fault_at ForeignSource (counted c))
      go true e = absurd (n (source_is a c.source e))
      go false e = by_claim c h (fault_at ForeignSource (counted c)) (fault_at ForeignSource (counted c)) (rw (e) (inl refl)) (upto_itself fault_total (fault_at ForeignSource (counted c)))

  whole_no_input : (c : PlacedClaim) → Has a.claims c → Has a.sources c.source.partition.topic → (Has a.inputs c.source → ⊥) → Candidate a cs (fault_at NoSuchInput (counted c))
  whole_no_input c h s n = go (is_input a c.source) refl
    where
      go : (i : Bool) → is_input a c.source ≡ i → Candidate a cs (fault_at NoSuchInput (counted c))
      go true e = absurd (n (input_is a c.source e))
      go false e = by_claim c h (fault_at NoSuchInput (counted c)) (fault_at NoSuchInput (counted c)) (rw (is_source_has a c.source s, e) (inl refl)) (upto_itself fault_total (fault_at NoSuchInput (counted c)))

  whole_early : (c : PlacedClaim) → Has a.claims c → (committed_offset a.commits c.source.partition ≤ℤ pos c.source.offset) → Candidate a cs (fault_at Early (counted c))
  whole_early c h le = not_below c h (λ b. let l = b.below in absurd (omega (arith, ints, l, le))) Early refl

  whole_range : (c : PlacedClaim) → Has a.claims c → IsOutOfRange c.of c.output → ReadsSources a → Candidate a cs (fault_at NumberRange (counted c))
  whole_range c h out reads = elim (below_or c.source) [
    | inr n ↦ not_below c h n NumberRange refl
    | inl b ↦ by_claim c h (fault_at NumberRange (counted c)) (fault_at NumberRange (counted c))
        (shown_below c b reads (fault_at NumberRange (counted c)) (append_left (when (is_out_of_range c.of c.output) (fault_at NumberRange (counted c))) _ _ (is_when _ _ (is_out c.of c.output out))))
        (upto_itself fault_total (fault_at NumberRange (counted c)))
  ]

  whole_other : (c : PlacedClaim) → Has a.claims c → IsBelow a c.source → (is_passed a c ≡ false) → ReadsSources a → Candidate a cs (fault_at OtherTransaction (counted c))
  whole_other c h b e reads = by_claim c h (fault_at OtherTransaction (counted c)) (fault_at OtherTransaction (counted c))
      (shown_below c b reads (fault_at OtherTransaction (counted c)) (append_right (when (is_out_of_range c.of c.output) (fault_at NumberRange (counted c))) _ _ (is_when _ _ (ap not e))))
      (upto_itself fault_total (fault_at OtherTransaction (counted c)))

  -- ---- kinds of neighbours

  module _ (b : AreBelow a cs) where
    -- what neighbours of one source show
    shows_between : (y z : Counted) → Adjacent cs y z → y.source ≡ z.source → (x : OutputFault) → Has (run_of y z) x → Has (runs cs) x
    shows_between y z h e x k = has_between cs y z x h (rw (true_same_place y.source z.source e) k)

    -- of two claims of a source that differ in their counts, up to a claim of that source
    disagree : (u v c : Counted) → Has cs u → Has cs v → u.source ≡ c.source → v.source ≡ c.source → UpTo claim_cmp u c → UpTo claim_cmp v c → u.of ≢ v.of
        → Candidate a cs (fault_at CountDisagrees c)
    disagree u v c hu hv su sv lu lv n =
        let t = change claim_total (λ (d : Counted). d.of ≡ u.of) (λ d. nat_decided d.of u.of) cs b.in_order u v hu hv refl (λ e. n (sym e)) in
        let up = adjacent_up claim_total cs b.in_order t.y t.z t.adjacent in
        let high : UpTo claim_cmp t.z c = elim t.high [ inl l ↦ upto_trans claim_total t.z u c l lu | inr l ↦ upto_trans claim_total t.z v c l lv ] in
        found t.y t.z t.adjacent up high
        (elim t.low [ inl l ↦ sandwich_low u t.y su l (upto_trans claim_total t.y t.z c up high) | inr l ↦ sandwich_low v t.y sv l (upto_trans claim_total t.y t.z c up high) ])
        (elim t.low [ inl l ↦ sandwich_low u t.z su (upto_trans claim_total u t.y t.z l up) high | inr l ↦ sandwich_low v t.z sv (upto_trans claim_total v t.y t.z l up) high ])
        (elim t.differ [ inl d ↦ (λ e. d.1 (sym e ∙ d.0)) | inr d ↦ (λ e. d.0 (e ∙ d.1)) ])
      where
        sandwich_low : (u y : Counted) → u.source ≡ c.source → UpTo claim_cmp u y → UpTo claim_cmp y c → y.source ≡ c.source
        sandwich_low u y s l h = sandwich u y c l h s ∙ s

        found : (y z : Counted) → Adjacent cs y z → UpTo claim_cmp y z → UpTo claim_cmp z c → y.source ≡ c.source → z.source ≡ c.source → y.of ≢ z.of → Candidate a cs (fault_at CountDisagrees c)
        found y z h up high sy sz n =
            by_run (fault_at CountDisagrees z) (fault_at CountDisagrees c)
            (shows_between y z h (sy ∙ sym sz) _ (append_left (when (not (y.of == z.of)) (fault_at CountDisagrees z)) _ _ (is_when _ _ (unequal y.of z.of n))))
            (fault_upto (fault_at CountDisagrees z) (fault_at CountDisagrees c) sz (elim (in_run z c high sz) [ inl l ↦ inl l | inr r ↦ inr (r.0, inr (refl, r.1)) ]))
          where
            unequal : (m n : ℕ) → m ≢ n → not (m == n) ≡ true
            unequal m n d = go (m == n) refl
              where
                go : (t : Bool) → (m == n) ≡ t → not t ≡ true
                go true e = absurd (d (eqb-true m n e))
                go false e = refl

    least_up : (i : Place) (t c : PlacedClaim) → IsLeastClaim a i t → Has a.claims c → c.source ≡ i → UpTo claim_cmp (counted t) (counted c)
    least_up i t c l h e = subst (λ w. is_gt w ≡ false) (sym (same_number t c (l.names.source ∙ sym e))) (l.least c (record { has = h; source = e }))

    whole_disagrees : (c t : PlacedClaim) → Has a.claims c → IsLeastClaim a c.source t → c.of ≢ t.of → Candidate a cs (fault_at CountDisagrees (counted c))
    whole_disagrees c t h l n = elim (below_or c.source) [
      | inr m ↦ not_below c h m CountDisagrees refl
      | inl k ↦ disagree (counted c) (counted t) (counted c) (b.whole c h k) (b.whole t l.names.has (subst (IsBelow a) (sym l.names.source) k))
          refl l.names.source (upto_itself claim_total (counted c)) (least_up c.source t c l h refl) n
    ]

    whole_repeated : (c d : PlacedClaim) → Has a.claims c → Has a.claims d → d.source ≡ c.source → d.output ≡ c.output → place_cmp d.at c.at ≡ Less
        → Candidate a cs (fault_at Repeated (counted c))
    whole_repeated c d h k s o l = elim (below_or c.source) [
      | inr m ↦ not_below c h m Repeated refl
      | inl w ↦ here w
    ]
      where
        up : UpTo claim_cmp (counted d) (counted c)
        up = rw (place_tied d.source c.source s, nat_tied d.output c.output o, l) refl

        IsBefore : Counted → Type 0
        IsBefore x = place_cmp x.at c.at ≡ Less

        dec : (x : Counted) → Decided (IsBefore x)
        dec x = go (place_cmp x.at c.at) refl
          where
            go : (r : Ordering) → place_cmp x.at c.at ≡ r → Decided (IsBefore x)
            go Less e = inl e
            go Equal e = inr (λ f. let q = sym e ∙ f in absurd cc)
            go Greater e = inr (λ f. let q = sym e ∙ f in absurd cc)

        not_itself : IsBefore (counted c) → ⊥
        not_itself e = let q = sym e ∙ place_tied c.at c.at refl in absurd cc

        -- of its source and number, and from the earlier claim on to this one
        inside : (x : Counted) → UpTo claim_cmp (counted d) x → UpTo claim_cmp x (counted c) → (x.source ≡ c.source) × (x.output ≡ c.output)
        inside x l g =
            let e = sandwich (counted d) x (counted c) l g s in
            let p = outputs_rise (counted d) x l (sym e) in
            let q = outputs_rise x (counted c) g (e ∙ s) in
            (e ∙ s, omega (arith, p, q, o))

        found : (y z : Counted) → Adjacent cs y z → IsBefore y → (IsBefore z → ⊥) → UpTo claim_cmp (counted d) y → UpTo claim_cmp z (counted c) → Candidate a cs (fault_at Repeated (counted c))
        found y z n was nope low high =
            let mid = adjacent_up claim_total cs b.in_order y z n in
            let iy = inside y low (upto_trans claim_total y z (counted c) mid high) in
            let iz = inside z (upto_trans claim_total (counted d) y z low mid) high in
            let at : z.at ≡ c.at = elim (in_run z (counted c) high iz.0) [
              | inl l ↦ let q = iz.1 in absurd (omega (arith, l, q))
              | inr r ↦ same_at r.1
            ] in
            let l : place_cmp y.at z.at ≡ Less = subst (λ p. place_cmp y.at p ≡ Less) (sym at) was in
            by_run (fault_at Repeated z) (fault_at Repeated (counted c))
            (shows_between y z n (iy.0 ∙ sym iz.0) _ (append_right (when (not (y.of == z.of)) (fault_at CountDisagrees z)) _ _
            (append_left (when ((y.output == z.output) && is_lt (place_cmp y.at z.at)) (fault_at Repeated z)) _ _
            (is_when _ _ (and_from (y.output == z.output) (is_lt (place_cmp y.at z.at)) (eq-eqb y.output z.output (iy.1 ∙ sym iz.1)) (ap is_lt l))))))
            (fault_upto (fault_at Repeated z) (fault_at Repeated (counted c)) iz.0 (inr (iz.1, inr (refl, subst (λ p. UpTo place_cmp z.at p) at (upto_itself place_total z.at)))))
          where
            same_at : UpTo place_cmp z.at c.at → z.at ≡ c.at
            same_at u = go (place_cmp z.at c.at) refl u
              where
                go : (r : Ordering) → place_cmp z.at c.at ≡ r → is_gt r ≡ false → z.at ≡ c.at
                go Less e u = absurd (nope e)
                go Equal e u = place_exact z.at c.at e
                go Greater e u = absurd cc

        here : IsBelow a c.source → Candidate a cs (fault_at Repeated (counted c))
        here w =
            let t = change claim_total IsBefore dec cs b.in_order (counted d) (counted c) (b.whole d k (subst (IsBelow a) (sym s) w)) (b.whole c h w) l not_itself in
            elim t.differ [
              | inl r ↦ found t.y t.z t.adjacent r.0 r.1 (low t.y t.low) (high t.z t.high)
              | inr r ↦ absurd (back t.y t.z (adjacent_up claim_total cs b.in_order t.y t.z t.adjacent) (low t.y t.low) (high t.z t.high) r.0 r.1)
            ]
          where
            low : (y : Counted) → UpTo claim_cmp (counted d) y ⊎ UpTo claim_cmp (counted c) y → UpTo claim_cmp (counted d) y
            low y (inl l) = l
            low y (inr l) = upto_trans claim_total (counted d) (counted c) y up l

            high : (z : Counted) → UpTo claim_cmp z (counted d) ⊎ UpTo claim_cmp z (counted c) → UpTo claim_cmp z (counted c)
            high z (inl l) = upto_trans claim_total z (counted d) (counted c) l up
            high z (inr l) = l

            -- places of one number rise, so none before the claim is behind one that isn't
            back : (y z : Counted) → UpTo claim_cmp y z → UpTo claim_cmp (counted d) y → UpTo claim_cmp z (counted c) → (IsBefore y → ⊥) → IsBefore z → ⊥
            back y z mid low high nope was =
                let iy = inside y low (upto_trans claim_total y z (counted c) mid high) in
                let iz = inside z (upto_trans claim_total (counted d) y z low mid) high in
                elim (in_run y z mid (iy.0 ∙ sym iz.0)) [
                  | inl l ↦ let p = iy.1 in let q = iz.1 in absurd (omega (arith, l, p, q))
                  | inr r ↦ nope (upto_less y.at z.at c.at r.1 was)
                ]
              where
                upto_less : (i j k : Place) → UpTo place_cmp i j → place_cmp j k ≡ Less → place_cmp i k ≡ Less
                upto_less i j k u e = go (place_cmp i j) refl u
                  where
                    go : (r : Ordering) → place_cmp i j ≡ r → is_gt r ≡ false → place_cmp i k ≡ Less
                    go Less f u = place_total.trans i j k f e
                    go Equal f u = subst (λ x. place_cmp x k ≡ Less) (sym (place_exact i j f)) e
                    go Greater f u = absurd cc

    -- ---- an absent number

    -- the least claim has a greater number, so its source begins with a gap
    missing_first : AreApart a → (i : Place) → IsBelow a i → (t : PlacedClaim) → IsLeastClaim a i t → (n : ℕ) → 1 ≤ n → n ≤ t.of → n < t.output → Candidate a cs (missing i n)
    missing_first apart i w t l n one top gap =
        let r = first_of claim_total (λ (d : Counted). d.source ≡ i) (λ d. place_decided d.source i) cs b.in_order (counted t) (b.whole t l.names.has (subst (IsBelow a) (sym l.names.source) w)) l.names.source in
        let is : r.y ≡ counted t = same r.y r.yes r.low (begun r.y r.begins) in
        by_run (missing i 1) (missing i n) (begins r.y r.yes is r.begins) (fault_upto (missing i 1) (missing i n) refl (first n one))
      where
        first : (n : ℕ) → 1 ≤ n → (1 < n) ⊎ ((1 ≡ n) × LaterKind Missing Missing None None)
        first n one = elim (nat_less_or 1 n) [ inl l ↦ inl l | inr g ↦ inr (omega arith, inr (refl, refl)) ]

        begun : (y : Counted) → IsHead cs y ⊎ ((x : Counted) × Adjacent cs x y × (x.source ≡ i → ⊥)) → Has cs y
        begun y (inl h) = head_has cs y h
        begun y (inr r) = (adjacent_has cs r.0 y r.1).1

        -- the first claim of the source is the least one
        same : (y : Counted) → y.source ≡ i → UpTo claim_cmp y (counted t) → Has cs y → y ≡ counted t
        same y s u h = let c = b.sound y h in go c.0 c.1 c.2
          where
            go : (c : PlacedClaim) → Has a.claims c → counted c ≡ y → y ≡ counted t
            go c k e =
                let sc : c.source ≡ i = ap (λ (m : Counted). m.source) e ∙ s in
                let tied = claim_tied (counted c) (counted t) (subst (λ z. UpTo claim_cmp z (counted t)) (sym e) u) (least_up i t c l k sc) in
                let one : c ≡ t = apart c t k l.names.has tied in
                sym e ∙ ap counted one

        begins : (y : Counted) → y.source ≡ i → y ≡ counted t → IsHead cs y ⊎ ((x : Counted) × Adjacent cs x y × (x.source ≡ i → ⊥)) → Has (runs cs) (missing i 1)
        begins y s is (inl h) = has_start cs y (missing i 1) h (shows y s is)
          where
            shows : (y : Counted) → y.source ≡ i → y ≡ counted t → Has (at_start y) (missing i 1)
            shows y s is = subst (λ p. Has (at_start y) (missing p 1)) s
                (is_when _ _ (and_from (nat_lt 1 y.output) (nat_lt 0 y.of) (lt-ltb 1 y.output (let q = ap (λ (m : Counted). m.output) is in omega (arith, q, gap, one))) (lt-ltb 0 y.of (let q = ap (λ (m : Counted). m.of) is in omega (arith, q, top, one)))))
        begins y s is (inr r) = has_between cs r.0 y (missing i 1) r.1 (other (is_eq (place_cmp r.0.source y.source)) refl)
          where
            shows : (y : Counted) → y.source ≡ i → y ≡ counted t → Has (at_start y) (missing i 1)
            shows y s is = subst (λ p. Has (at_start y) (missing p 1)) s
                (is_when _ _ (and_from (nat_lt 1 y.output) (nat_lt 0 y.of) (lt-ltb 1 y.output (let q = ap (λ (m : Counted). m.output) is in omega (arith, q, gap, one))) (lt-ltb 0 y.of (let q = ap (λ (m : Counted). m.of) is in omega (arith, q, top, one)))))

            other : (t : Bool) → is_eq (place_cmp r.0.source y.source) ≡ t → Has (if t then run_of r.0 y else at_end r.0 ++ at_start y) (missing i 1)
            other true e = absurd (r.2 (same_place_true r.0.source y.source e ∙ s))
            other false e = append_right (at_end r.0) (at_start y) (missing i 1) (shows y s is)

    -- the last claim below the absent number shows the gap, or says another count than the least
    missing_later : (i : Place) → IsBelow a i → (t : PlacedClaim) → IsLeastClaim a i t → (n : ℕ) → n ≤ t.of → t.output < n
        → ((c : PlacedClaim) → Names a i c → c.output ≢ n) → Candidate a cs (missing i n)
    missing_later i w t l n top low absent =
        let r = last_of claim_total IsLower dec cs b.in_order (counted t) (b.whole t l.names.has (subst (IsBelow a) (sym l.names.source) w)) (l.names.source, low) in
        let c = b.sound r.y r.has in
        by_count r.y r.has r.yes.0 r.yes.1 r.ends c.0 c.1 c.2 (nat_decided r.y.of t.of)
      where
        IsLower : Counted → Type 0
        IsLower d = (d.source ≡ i) × (d.output < n)

        dec : (d : Counted) → Decided (IsLower d)
        dec d = both (place_decided d.source i) (elim (nat_less_or d.output n) [ inl l ↦ inl l | inr g ↦ inr (λ l. absurd (omega arith)) ])

        is_claim : (z : Counted) → Has cs z → z.source ≡ i → z.output ≢ n
        is_claim z h s = let c = b.sound z h in go c.0 c.1 c.2
          where
            go : (c : PlacedClaim) → Has a.claims c → counted c ≡ z → z.output ≢ n
            go c k e q = absent c (record { has = k; source = ap (λ (m : Counted). m.source) e ∙ s }) (ap (λ (m : Counted). m.output) e ∙ q)

        by_count : (y : Counted) → Has cs y → y.source ≡ i → y.output < n → IsLast cs y ⊎ ((z : Counted) × Adjacent cs y z × (IsLower z → ⊥))
            → (c : PlacedClaim) → Has a.claims c → counted c ≡ y → Decided (y.of ≡ t.of) → Candidate a cs (missing i n)
        by_count y h s lt ends c k e (inr m) =
            earlier (fault_at CountDisagrees (counted c)) (missing i n)
            (whole_disagrees c t k (subst (λ j. IsLeastClaim a j t) (sym (ap (λ (m : Counted). m.source) e ∙ s)) l) (λ q. m (sym (ap (λ (m : Counted). m.of) e) ∙ q)))
            (fault_upto (fault_at CountDisagrees (counted c)) (missing i n) (ap (λ (m : Counted). m.source) e ∙ s) (inl (subst (λ (m : Counted). m.output < n) (sym e) lt)))
        by_count y h s lt ends c k e (inl q) = by_run (missing y.source (y.output + 1)) (missing i n) (shows ends) (fault_upto (missing y.source (y.output + 1)) (missing i n) s (upto y.output lt))
          where
            open_end : nat_lt y.output y.of ≡ true
            open_end = lt-ltb y.output y.of (omega (arith, lt, q, top))

            upto : (k : ℕ) → k < n → (k + 1 < n) ⊎ ((k + 1 ≡ n) × LaterKind Missing Missing None None)
            upto k l = elim (nat_less_or (k + 1) n) [ inl m ↦ inl m | inr g ↦ inr (omega arith, inr (refl, refl)) ]

            shows : IsLast cs y ⊎ ((z : Counted) × Adjacent cs y z × (IsLower z → ⊥)) → Has (runs cs) (missing y.source (y.output + 1))
            shows (inl f) = has_end cs y (missing y.source (y.output + 1)) f (is_when _ _ open_end)
            shows (inr r) = has_between cs y r.0 _ r.1 (go (is_eq (place_cmp y.source r.0.source)) refl)
              where
                far : r.0.source ≡ i → y.output + 1 < r.0.output
                far s = let m = is_claim r.0 (adjacent_has cs y r.0 r.1).1 s in elim (nat_less_or r.0.output n) [
                  | inl l ↦ absurd (r.2 (s, l))
                  | inr g ↦ elim (nat_less_or n r.0.output) [ inl l ↦ omega (arith, l, lt) | inr f ↦ absurd (m (omega (arith, f, g))) ]
                ]

                go : (t : Bool) → is_eq (place_cmp y.source r.0.source) ≡ t → Has (if t then run_of y r.0 else at_end y ++ at_start r.0) (missing y.source (y.output + 1))
                go true e = append_right (when (not (y.of == r.0.of)) (fault_at CountDisagrees r.0)) _ _ (append_right (when ((y.output == r.0.output) && is_lt (place_cmp y.at r.0.at)) (fault_at Repeated r.0)) _ _
                    (is_when _ _ (and_from (nat_lt (y.output + 1) r.0.output) (nat_lt y.output y.of) (lt-ltb (y.output + 1) r.0.output (far (sym (same_place_true y.source r.0.source e) ∙ s))) open_end)))
                go false e = append_left (at_end y) (at_start r.0) _ (is_when _ _ open_end)

    whole_missing : AreApart a → (i : Place) (n top : ℕ) → IsBelow a i → IsTop a i top → 1 ≤ n → n ≤ top → ((c : PlacedClaim) → Names a i c → c.output ≢ n) → Candidate a cs (missing i n)
    whole_missing apart i n top w (inr none) one le absent =
        by_input i w.input (missing i 1) (missing i n) (is_when _ _ (and_from (is_committed a i) _ (is_less_int (pos i.offset) (committed_offset a.commits i.partition) w.below) (unnamed (list_any (names i) a.claims) refl)))
        (fault_upto (missing i 1) (missing i n) refl (inr (let q = none.1 in omega (arith, q, one, le), inr (refl, refl))))
      where
        unnamed : (t : Bool) → list_any (names i) a.claims ≡ t → not t ≡ true
        unnamed true e = let r = claimed_is a i e in absurd (none.0 r.0 r.1)
        unnamed false e = refl
    whole_missing apart i n top w (inl t) one le absent = elim (nat_less_or n t.0.output) [
      | inl l ↦ missing_first apart i w t.0 t.1 n one (subst (λ z. n ≤ z) (sym t.2) le) l
      | inr g ↦ missing_later i w t.0 t.1 n (subst (λ z. n ≤ z) (sym t.2) le) (let m = absent t.0 t.1.names in below_n t.0.output m g) absent
    ]
      where
        below_n : (k : ℕ) → k ≢ n → k ≤ n → k < n
        below_n k m g = elim (nat_less_or k n) [ inl l ↦ l | inr f ↦ absurd (m (omega arith)) ]

    -- ---- all kinds

    abbrev fault_of : OutputKind → Place → ℕ → Option Place → OutputFault
    fault_of k s o p = record { source = s; output = o; kind = k; at = p }

    -- the fault is the claim's of that kind
    at_fault : (f : OutputFault) (k : OutputKind) → f.kind ≡ k → (at : AtClaim a f) → Candidate a cs (fault_at k (counted at.claim)) → Candidate a cs f
    at_fault f k e at c = subst (Candidate a cs)
        (ap (λ s. fault_of k s at.claim.output (Some at.claim.at)) at.source
        ∙ (ap (λ o. fault_of k f.source o (Some at.claim.at)) at.output
        ∙ (ap (fault_of k f.source f.output) (sym at.at) ∙ ap (λ l. fault_of l f.source f.output f.at) (sym e)))) c

    is_missing : (f : OutputFault) → f.kind ≡ Missing → f.at ≡ None → missing f.source f.output ≡ f
    is_missing f e n = ap (fault_of Missing f.source f.output) (sym n) ∙ ap (λ l. fault_of l f.source f.output f.at) (sym e)

    unpassed : (c : PlacedClaim) → (IsPassed a c → ⊥) → is_passed a c ≡ false
    unpassed c n = go (is_passed a c) refl
      where
        go : (t : Bool) → is_passed a c ≡ t → t ≡ false
        go true e = absurd (n (passed_is a c e))
        go false e = refl

    pub whole : ReadsSources a → AreApart a → (f : OutputFault) (k : OutputKind) → f.kind ≡ k → StandsAs a f k → Candidate a cs f
    whole reads apart f ForeignSource e s = at_fault f ForeignSource e s.0
        (whole_foreign s.0.claim s.0.has (λ h. s.1 (subst (λ (p : Place). Has a.sources p.partition.topic) s.0.source h)) reads)
    whole reads apart f NoSuchInput e s = at_fault f NoSuchInput e s.0
        (whole_no_input s.0.claim s.0.has (subst (λ (p : Place). Has a.sources p.partition.topic) (sym s.0.source) s.1) (λ h. s.2 (subst (Has a.inputs) s.0.source h)))
    whole reads apart f Early e s = at_fault f Early e s.0
        (whole_early s.0.claim s.0.has (subst (λ (p : Place). committed_offset a.commits p.partition ≤ℤ pos p.offset) (sym s.0.source) s.2))
    whole reads apart f CountDisagrees e s = at_fault f CountDisagrees e s.0
        (whole_disagrees s.0.claim s.1 s.0.has (subst (λ p. IsLeastClaim a p s.1) (sym s.0.source) s.2) s.3)
    whole reads apart f NumberRange e s = at_fault f NumberRange e s.0
        (whole_range s.0.claim s.0.has (subst (IsOutOfRange s.0.claim.of) (sym s.0.output) s.1) reads)
    whole reads apart f Repeated e s = at_fault f Repeated e s.0
        (whole_repeated s.0.claim s.1 s.0.has s.2.has (s.2.source ∙ sym s.0.source) (s.3 ∙ sym s.0.output) s.4)
    whole reads apart f Missing e s = subst (Candidate a cs) (is_missing f e s.at)
        (whole_missing apart f.source f.output s.top s.below s.is_top s.first s.last s.absent)
    whole reads apart f OtherTransaction e s = at_fault f OtherTransaction e s.0
        (whole_other s.0.claim s.0.has (subst (IsBelow a) (sym s.0.source) s.1) (unpassed s.0.claim s.2) reads)

-- The least of the candidates is the least fault.
pub least : (a : Application) (cs : List Counted) → ReadsSources a → AreApart a → AreBelow a cs → (w : Option OutputFault)
    → w ≡ fold (lesser_of fault_cmp) None (candidates a cs) → IsLeastOrNone fault_cmp (Stands a) w
least a cs reads apart b w e = least_by_candidates fault_total fault_exact (Stands a) (candidates a cs)
    (λ f h. let r = sound a cs b f h in (r.fault, r.stands, r.upto))
    (λ f s. let r = whole a cs b reads apart f f.kind refl s in (r.fault, r.has, r.upto))
    w e
