-- The lists of the applications, one after the other, are the list of all faults of the lineage.
use Rattle.std.proofs.Common.{◌≡◌, ◌+◌, ◌<◌, ◌≤◌, ℕ, zero, suc, List, [], ◌∷◌, ◌++◌, length, map, get_or, Option, Some, None, refl, sym, subst, ap, ◌∙◌, inl, inr, ◌⊎◌, true, false, Bool, arith, flat_map, if◌then◌else◌}
use Rattle.std.specs.Prelude.{nat_lt}
use Rattle.std.specs.List.Sorted.{IsStrictlySortedBy}
use Rattle.std.specs.Ordering.{nat_cmp, ordering_then}
use Rattle.std.specs.declared.cmp.Ordering.{Ordering}
use Rattle.std.specs.declared.cmp.Ordering.TheVariants.{Less}
use Rattle.std.proofs.lemmas.Bool.{cases_lt, lt-ltb}
use Rattle.std.proofs.lemmas.Grind.{flat_map-append}
use Rattle.std.proofs.lemmas.List.{append-nil, map-append}
use Rattle.eos_base.specs.Members.{Has}
use Rattle.eos_base.specs.Least.{NoneStands}
use Rattle.eos_base.proofs.Membership.{append_cases, flat_has, has_flat, map_has, has_map, only}
use Rattle.eos_evidence.specs.declared.application.App.{App}
use Rattle.eos_evidence.specs.SpecFields.{groups_of}
use Rattle.eos_evidence.specs.Topics.{are_unequal}
use Rattle.eos_fold.specs.Parts.{PartLog}
use Rattle.eos_base.proofs.WholeList.{plain_rises}
use Rattle.eos_claims.specs.declared.fault.OutputFault.{OutputFault}
use Rattle.eos_claims.specs.Faults as outputs
use Rattle.eos_claims.proofs.ClaimOrder.{nat_less, nat_tied, then_equal}
use Rattle.eos_commits.specs.Commits.{Group}
use Rattle.eos_commits.specs.Faults as records
use Rattle.eos_verdict.specs.declared.lineage_fault.LineageFault.{LineageFault}
use Rattle.eos_verdict.specs.declared.lineage_fault.LineageFault.TheVariants.{Record, Output}
use Rattle.eos_commits.specs.Applications.{application_of}
use Rattle.eos_commits.proofs.SpotFaults.{rises_append}
use Rattle.eos_lineage.specs.Faults.{named_group, Stands, place_of, lineage_cmp}
use Rattle.eos_lineage.proofs.FirstFault.{place_is}
use Rattle.eos_faults.specs.OneInput.{OfOneInput}
use Rattle.eos_faults.specs.LineageFaults.{IsLaterOf, AreLineageFaults}
use Rattle.eos_faults.specs.steps.OutputFaultsGathered.{AreOutputFaults}
use Rattle.eos_faults.specs.steps.Taken.{in_group, AppFaults, app_of, faults_in, AreTaken}

-- ---- one application further

pub none_taken : (apps : List App) (ps : List PartLog) → AreTaken apps ps [] []
none_taken apps ps = record { taken = []; are = refl; each = λ t h. absurd h; all = refl }

pub taken_more : (apps : List App) (ps : List PartLog) (done : List App) (app : App) (fs : List OutputFault) (list new : List LineageFault) → AreTaken apps ps done list
    → AreOutputFaults (application_of app ps) fs → new ≡ list ++ map (in_group (named_group apps app)) fs → AreTaken apps ps (done ++ app ∷ []) new
taken_more apps ps done app fs list new before are pushed = record {
  taken = before.taken ++ this ∷ [];
  are = map-append app_of before.taken (this ∷ []) ∙ ap (λ xs. xs ++ app ∷ []) before.are;
  each = λ t h. elim (append_cases before.taken (this ∷ []) t h) [
    | inl a ↦ before.each t a
    | inr b ↦ subst (λ (u : AppFaults). AreOutputFaults (application_of u.app ps) u.faults) (only this t b) are
  ];
  all = pushed ∙ (ap (λ xs. xs ++ faults_in apps this) before.all ∙ sym (flat_map-append (faults_in apps) before.taken (this ∷ []) ∙ ap (λ xs. flat_map (faults_in apps) before.taken ++ xs) (append-nil (faults_in apps this))));
}
  where
    this : AppFaults
    this = record { app = app; faults = fs }

-- ---- places of the applications

-- each at its place from one on
abbrev AreRanked : List App → ℕ → List AppFaults → Type 0
AreRanked apps n [] = Unit {0}
AreRanked apps n (t ∷ ts) = (place_of apps (named_group apps t.app) ≡ n) × AreRanked apps (suc n) ts

ranked_by : (apps : List App) (n : ℕ) (ts : List AppFaults) → ((k : ℕ) (d : AppFaults) → k < length ts → place_of apps (named_group apps (get_or ts k d).app) ≡ n + k) → AreRanked apps n ts
ranked_by apps n [] at = tt
ranked_by apps n (t ∷ ts) at = (let e = at zero t (omega arith) in e ∙ (let z : n + 0 ≡ n = omega arith in z), ranked_by apps (suc n) ts (λ k d lt. at (suc k) d (omega (arith, lt)) ∙ (let s : n + suc k ≡ suc n + k = omega arith in s)))

app_at : (ts : List AppFaults) (k : ℕ) (d : AppFaults) → (get_or ts k d).app ≡ get_or (map app_of ts) k d.app
app_at [] k d = refl
app_at (t ∷ ts) zero d = refl
app_at (t ∷ ts) (suc k) d = app_at ts k d

same_length : (ts : List AppFaults) → length (map app_of ts) ≡ length ts
same_length [] = refl
same_length (t ∷ ts) = ap suc (same_length ts)

named_place : (apps : List App) → are_unequal (groups_of apps) ≡ true → (k : ℕ) (d : App) → k < length apps → place_of apps (named_group apps (get_or apps k d)) ≡ k
named_place apps un k d lt = go (nat_lt 1 (length apps)) refl
  where
    go : (b : Bool) → nat_lt 1 (length apps) ≡ b → place_of apps (if b then Some (get_or apps k d).group else None) ≡ k
    go true e = place_is apps k d un lt
    go false e = elim (cases_lt 1 (length apps)) [
      | inl two ↦ let bad : true ≡ false = sym (lt-ltb 1 (length apps) two) ∙ e in absurd cc
      | inr few ↦ omega (arith, lt, few)
    ]

all_ranked : (apps : List App) (ts : List AppFaults) → are_unequal (groups_of apps) ≡ true → map app_of ts ≡ apps → AreRanked apps 0 ts
all_ranked apps ts un are = ranked_by apps 0 ts (λ k d lt.
    let within : k < length apps = let n = same_length ts in let m = ap length are in omega (arith, lt, n, m) in
    let is : (get_or ts k d).app ≡ get_or apps k d.app = app_at ts k d ∙ ap (λ xs. get_or xs k d.app) are in
    ap (λ (x : App). place_of apps (named_group apps x)) is ∙ (named_place apps un k d.app within ∙ (let z : k ≡ 0 + k = omega arith in z)))

-- no member stands before the first place
rank_from : (apps : List App) (n : ℕ) (ts : List AppFaults) → AreRanked apps n ts → (t : AppFaults) → Has ts t → n ≤ place_of apps (named_group apps t.app)
rank_from apps n [] r t h = absurd h
rank_from apps n (u ∷ ts) r t (inl e) = let p = subst (λ (v : AppFaults). place_of apps (named_group apps v.app) ≡ n) e r.0 in omega (arith, p)
rank_from apps n (u ∷ ts) r t (inr h) = let p = rank_from apps (suc n) ts r.1 t h in omega (arith, p)

one_ranked : (apps : List App) (n : ℕ) (ts : List AppFaults) → AreRanked apps n ts → (t u : AppFaults) → Has ts t → Has ts u
    → place_of apps (named_group apps t.app) ≡ place_of apps (named_group apps u.app) → t ≡ u
one_ranked apps n [] r t u h k e = absurd h
one_ranked apps n (x ∷ ts) r t u (inl a) (inl b) e = sym a ∙ b
one_ranked apps n (x ∷ ts) r t u (inl a) (inr k) e =
    let p = subst (λ (v : AppFaults). place_of apps (named_group apps v.app) ≡ n) a r.0 in
    let q = rank_from apps (suc n) ts r.1 u k in
    absurd (omega (arith, p, q, e))
one_ranked apps n (x ∷ ts) r t u (inr h) (inl b) e =
    let p = subst (λ (v : AppFaults). place_of apps (named_group apps v.app) ≡ n) b r.0 in
    let q = rank_from apps (suc n) ts r.1 t h in
    absurd (omega (arith, p, q, e))
one_ranked apps n (x ∷ ts) r t u (inr h) (inr k) e = one_ranked apps (suc n) ts r.1 t u h k e

-- ---- in order

one_rises : (apps : List App) (group : Option Group) (fs : List OutputFault) → IsStrictlySortedBy outputs.fault_cmp fs → IsStrictlySortedBy (lineage_cmp apps) (map (in_group group) fs)
one_rises apps group fs up = plain_rises (in_group group) (lineage_cmp apps) fs (subst (λ (cmp : OutputFault → OutputFault → Ordering). IsStrictlySortedBy cmp fs) same up)
  where
    tied : (f g : OutputFault) → outputs.fault_cmp f g ≡ lineage_cmp apps (in_group group f) (in_group group g)
    tied f g = sym (then_equal (nat_cmp (place_of apps group) (place_of apps group)) (outputs.fault_cmp f g) (nat_tied (place_of apps group) (place_of apps group) refl))

    same : outputs.fault_cmp ≡ (λ f g. lineage_cmp apps (in_group group f) (in_group group g))
    same = λ i f g. tied f g i

all_rise : (apps : List App) (n : ℕ) (ts : List AppFaults) → AreRanked apps n ts → ((t : AppFaults) → Has ts t → IsStrictlySortedBy outputs.fault_cmp t.faults) → IsStrictlySortedBy (lineage_cmp apps) (flat_map (faults_in apps) ts)
unfolding IsStrictlySortedBy
all_rise apps n [] r each = tt
all_rise apps n (t ∷ ts) r each = rises_append (lineage_cmp apps) (faults_in apps t) (flat_map (faults_in apps) ts) (one_rises apps (named_group apps t.app) t.faults (each t (inl refl))) (all_rise apps (suc n) ts r.1 (λ u h. each u (inr h))) less
  where
    below : (u : AppFaults) → Has ts u → place_of apps (named_group apps t.app) < place_of apps (named_group apps u.app)
    below u h = let p = r.0 in let q = rank_from apps (suc n) ts r.1 u h in omega (arith, p, q)

    by_place : (g h : Option Group) (x y : OutputFault) → place_of apps g < place_of apps h → lineage_cmp apps (in_group g x) (in_group h y) ≡ Less
    by_place g h x y lt = subst (λ o. ordering_then o (outputs.fault_cmp x y) ≡ Less) (sym (nat_less (place_of apps g) (place_of apps h) lt)) refl

    less : (x y : LineageFault) → Has (faults_in apps t) x → Has (flat_map (faults_in apps) ts) y → lineage_cmp apps x y ≡ Less
    less x y h k =
        let f = map_has (in_group (named_group apps t.app)) t.faults x h in
        let u = flat_has (faults_in apps) ts y k in
        let g = map_has (in_group (named_group apps u.0.app)) u.0.faults y u.2 in
        subst (λ z. lineage_cmp apps z y ≡ Less) f.2 (subst (λ z. lineage_cmp apps (in_group (named_group apps t.app) f.0) z ≡ Less) g.2
        (by_place (named_group apps t.app) (named_group apps u.0.app) f.0 g.0 (below u.0 u.1)))

-- ---- the whole list

module _ (apps : List App) (ps : List PartLog) (un : are_unequal (groups_of apps) ≡ true) (none : NoneStands (records.Stands apps ps)) where
  -- a member is a fault of an application
  record IsOf (ts : List AppFaults) (group : Option Group) (f : OutputFault) : Type 0 where
    of : AppFaults
    has : Has ts of
    inside : Has of.faults f
    named : group ≡ named_group apps of.app

  abbrev group_in : LineageFault → Option Group
  group_in (Record f) = None
  group_in (Output group f) = group

  abbrev fault_of : OutputFault → LineageFault → OutputFault
  fault_of d (Record f) = d
  fault_of d (Output group f) = f

  is_of : (ts : List AppFaults) (group : Option Group) (f : OutputFault) → Has (flat_map (faults_in apps) ts) (Output group f) → IsOf ts group f
  is_of ts group f h =
      let t = flat_has (faults_in apps) ts (Output group f) h in
      let g = map_has (in_group (named_group apps t.0.app)) t.0.faults (Output group f) t.2 in
      record { of = t.0; has = t.1; inside = subst (Has t.0.faults) (ap (fault_of f) g.2) g.1; named = sym (ap group_in g.2) }

  of_is : (ts : List AppFaults) (t : AppFaults) (group : Option Group) (f : OutputFault) → Has ts t → Has t.faults f → group ≡ named_group apps t.app → Has (flat_map (faults_in apps) ts) (Output group f)
  of_is ts t group f h k e = subst (λ (g : Option Group). Has (flat_map (faults_in apps) ts) (Output g f)) (sym e) (has_flat (faults_in apps) ts t (Output (named_group apps t.app) f) h (has_map (in_group (named_group apps t.app)) t.faults f k))

  no_record : (ts : List AppFaults) (f : LineageFault) → Has (flat_map (faults_in apps) ts) f → (group : Option Group) × (g : OutputFault) × (Output group g ≡ f)
  no_record ts f h =
      let t = flat_has (faults_in apps) ts f h in
      let g = map_has (in_group (named_group apps t.0.app)) t.0.faults f t.2 in
      (named_group apps t.0.app, g.0, g.2)

  module _ (ts : List AppFaults) (are : map app_of ts ≡ apps) (lists : (t : AppFaults) → Has ts t → AreOutputFaults (application_of t.app ps) t.faults) where
    stands : (f : LineageFault) → Has (flat_map (faults_in apps) ts) f → Stands apps ps f
    stands f h = let o = no_record ts f h in subst (Stands apps ps) o.2 (outputs_stand o.0 o.1 (subst (Has (flat_map (faults_in apps) ts)) (sym o.2) h))
      where
        outputs_stand : (group : Option Group) (g : OutputFault) → Has (flat_map (faults_in apps) ts) (Output group g) → Stands apps ps (Output group g)
        outputs_stand group g h =
            let m = is_of ts group g h in
            (none, record { app = m.of.app; has = subst (λ xs. Has xs m.of.app) are (has_map app_of ts m.of m.has); named = m.named; stands = (lists m.of m.has).each g m.inside })

    there : (f : LineageFault) → Stands apps ps f → Has (flat_map (faults_in apps) ts) f ⊎ IsLaterOf (flat_map (faults_in apps) ts) f
    there (Record f) st = absurd (none f st)
    there (Output group f) st =
        let t = map_has app_of ts st.1.app (subst (λ xs. Has xs st.1.app) (sym are) st.1.has) in
        let named : group ≡ named_group apps t.0.app = st.1.named ∙ ap (named_group apps) (sym t.2) in
        let here : outputs.Stands (application_of t.0.app ps) f = subst (λ (x : App). outputs.Stands (application_of x ps) f) (sym t.2) st.1.stands in
        elim ((lists t.0 t.1).all f here) [
          | inl h ↦ inl (of_is ts t.0 group f t.1 h named)
          | inr r ↦ inr (r.0, of_is ts t.0 group r.0 t.1 r.1 named, r.2, r.3)
        ]

    one : (group : Option Group) (f g : OutputFault) → Has (flat_map (faults_in apps) ts) (Output group f) → Has (flat_map (faults_in apps) ts) (Output group g) → OfOneInput f g → f ≡ g
    one group f g h k of =
        let m = is_of ts group f h in
        let n = is_of ts group g k in
        let same : n.of ≡ m.of = one_ranked apps 0 ts (all_ranked apps ts un are) n.of m.of n.has m.has (ap (place_of apps) (sym n.named ∙ m.named)) in
        (lists m.of m.has).one_missing f g m.inside (subst (λ (t : AppFaults). Has t.faults g) same n.inside) of

    joined : AreLineageFaults apps ps (flat_map (faults_in apps) ts)
    joined = record { rises = all_rise apps 0 ts (all_ranked apps ts un are) (λ t h. (lists t h).rises); each = stands; all = there; one_missing = one }

  pub all_taken : (list : List LineageFault) → AreTaken apps ps apps list → AreLineageFaults apps ps list
  all_taken list t = subst (AreLineageFaults apps ps) (sym t.all) (joined t.taken t.are t.each)
