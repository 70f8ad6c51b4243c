-- The first application whose outputs have a fault has the least fault.
use Rattle.std.proofs.Common.{◌≡◌, ◌+◌, ◌<◌, ◌≤◌, ℕ, zero, suc, List, [], ◌∷◌, ◌++◌, length, take, get_or, Option, None, Ok, refl, sym, subst, ap, ◌∙◌, inl, inr, true, false, Bool, not, ◌&&◌, ◌||◌, arith, if◌then◌else◌}
use Rattle.std.specs.Prelude.{bytes_eq}
use Rattle.std.specs.Ordering.{nat_cmp, is_gt, ordering_then}
use Rattle.std.specs.declared.cmp.Ordering.TheVariants.{Less, Equal}
use Rattle.std.proofs.lemmas.Bool.{cases_lt, lt-ltb}
use Rattle.std.proofs.lemmas.Cmp.{tied_itself, nat_cmp_total}
use Rattle.std.proofs.lemmas.Map.Text.{is_eq-slice_cmp}
use Rattle.std.proofs.Math.Seq.{take-suc}
use Rattle.eos_base.specs.Members.{Has}
use Rattle.eos_base.specs.Least.{UpTo, NoneStands, IsLeast}
use Rattle.eos_base.proofs.Membership.{append_cases, only}
use Rattle.eos_evidence.specs.declared.application.App.{App}
use Rattle.eos_evidence.specs.SpecFields.{SpecFields, groups_of, are_legal_apps, outputs_of, IsAccepted}
use Rattle.eos_evidence.specs.Topics.{is_among, are_unequal}
use Rattle.eos_evidence.proofs.AcceptedParts.{refused_apps}
use Rattle.eos_fold.specs.Parts.{PartLog}
use Rattle.eos_claims.specs.declared.fault.OutputFault.{OutputFault}
use Rattle.eos_claims.specs.Faults as outputs
use Rattle.eos_claims.proofs.ClaimOrder.{nat_less}
use Rattle.eos_commits.specs.Commits.{Group, is_same}
use Rattle.eos_verdict.specs.declared.visible_fault.VisibleFault.{VisibleFault}
use Rattle.eos_commits.specs.Faults as records
use Rattle.eos_verdict.specs.declared.lineage_fault.LineageFault.{LineageFault}
use Rattle.eos_verdict.specs.declared.lineage_fault.LineageFault.TheVariants.{Record, Output}
use Rattle.eos_commits.specs.Applications.{application_of, inputs_below}
use Rattle.eos_lineage.specs.Lineage.{count_inputs, count_outputs, outputs_in}
use Rattle.eos_lineage.specs.Faults.{named_group, Stands, place_of_group, place_of, lineage_cmp, IsAnswer}
use Rattle.eos_lineage.specs.steps.Walks.{IsOutputsAnswer}
use Rattle.eos_lineage.proofs.LineageLaw.{true_same}
use Rattle.eos_commits.proofs.NameSearch.{has_index}

-- ---- places of groups

parts_of_and : (a b : Bool) → (a && b) ≡ true → (a ≡ true) × (b ≡ true)
parts_of_and true b e = (refl, e)
parts_of_and false b e = absurd cc

not_true : (b : Bool) → not b ≡ true → b ≡ false
not_true false e = refl
not_true true e = absurd cc

among_at : (g : Group) (apps : List App) (k : ℕ) (d : App) → k < length apps → is_same g (get_or apps k d).group ≡ true → is_among g (groups_of apps) ≡ true
among_at g [] k d lt e = absurd (omega (arith, lt))
among_at g (x ∷ xs) zero d lt e = let t : bytes_eq g x.group ≡ true = sym (is_eq-slice_cmp g x.group) ∙ e in rw t refl
among_at g (x ∷ xs) (suc k) d lt e = later (bytes_eq g x.group) (among_at g xs k d (omega (arith, lt)) e)
  where
    later : (b : Bool) → is_among g (groups_of xs) ≡ true → (b || is_among g (groups_of xs)) ≡ true
    later true r = refl
    later false r = r

pub place_is : (apps : List App) (k : ℕ) (d : App) → are_unequal (groups_of apps) ≡ true → k < length apps → place_of_group (get_or apps k d).group apps ≡ k
place_is [] k d un lt = absurd (omega (arith, lt))
place_is (x ∷ xs) zero d un lt = let t = true_same x.group x.group refl in rw t refl
place_is (x ∷ xs) (suc k) d un lt = go (place_is xs k d both.1 (omega (arith, lt))) (is_same x.group (get_or xs k d).group) refl
  where
    both : (not (is_among x.group (groups_of xs)) ≡ true) × (are_unequal (groups_of xs) ≡ true)
    both = parts_of_and (not (is_among x.group (groups_of xs))) (are_unequal (groups_of xs)) un

    go : place_of_group (get_or xs k d).group xs ≡ k → (b : Bool) → is_same x.group (get_or xs k d).group ≡ b → (if b then 0 else suc (place_of_group (get_or xs k d).group xs)) ≡ suc k
    go more true e =
        let t = among_at x.group xs k d (omega (arith, lt)) e in
        let f = not_true (is_among x.group (groups_of xs)) both.0 in
        let q : true ≡ false = sym t ∙ f in
        absurd cc
    go more false e = ap suc more

-- ---- the applications so far

pub record PassedSoFar (done : List App) (ps : List PartLog) (inputs outs : ℕ) : Type 0 where
  pub inputs_are : inputs ≡ count_inputs done ps
  pub outputs_are : outs ≡ count_outputs done ps
  pub none : (t : App) → Has done t → NoneStands (outputs.Stands (application_of t ps))

pub passed_none : (ps : List PartLog) → PassedSoFar [] ps 0 0
passed_none ps = record { inputs_are = refl; outputs_are = refl; none = λ t h. absurd h }

inputs_more : (xs : List App) (ps : List PartLog) (x : App) → count_inputs (xs ++ x ∷ []) ps ≡ count_inputs xs ps + length (inputs_below (application_of x ps))
inputs_more [] ps x = omega arith
inputs_more (y ∷ xs) ps x = let r = inputs_more xs ps x in omega (arith, r)

outputs_more : (xs : List App) (ps : List PartLog) (x : App) → count_outputs (xs ++ x ∷ []) ps ≡ count_outputs xs ps + length (outputs_in (application_of x ps))
outputs_more [] ps x = omega arith
outputs_more (y ∷ xs) ps x = let r = outputs_more xs ps x in omega (arith, r)

pub passed_more : (apps : List App) (ps : List PartLog) (i : ℕ) (d : App) (m n k l : ℕ) → i < length apps → PassedSoFar (take i apps) ps m n
    → IsOutputsAnswer (application_of (get_or apps i d) ps) None k l → PassedSoFar (take (i + 1) apps) ps (m + k) (n + l)
passed_more apps ps i d m n k l lt s answer = subst (λ (ts : List App). PassedSoFar ts ps (m + k) (n + l)) cut (record {
  inputs_are = (λ j. s.inputs_are j + answer.1 j) ∙ sym (inputs_more (take i apps) ps (get_or apps i d));
  outputs_are = (λ j. s.outputs_are j + answer.2 j) ∙ sym (outputs_more (take i apps) ps (get_or apps i d));
  none = λ t h. elim (append_cases (take i apps) (get_or apps i d ∷ []) t h) [
    | inl a ↦ s.none t a
    | inr b ↦ subst (λ (u : App). NoneStands (outputs.Stands (application_of u ps))) (only (get_or apps i d) t b) answer.0
  ];
})
  where
    cut : take i apps ++ get_or apps i d ∷ [] ≡ take (i + 1) apps
    cut = let e : suc i ≡ i + 1 = omega arith in subst (λ j. take i apps ++ get_or apps i d ∷ [] ≡ take j apps) e (sym (take-suc apps i d lt))

pub all_passed : (apps : List App) (ps : List PartLog) (m n : ℕ) → NoneStands (records.Stands apps ps) → PassedSoFar apps ps m n → IsAnswer apps ps (Ok (record { inputs = m; outputs = n }))
all_passed apps ps m n none s = (nothing, s.inputs_are, s.outputs_are)
  where
    nothing : (f : LineageFault) → Stands apps ps f → ⊥
    nothing (Record f) st = none f st
    nothing (Output g f) st = s.none st.1.app st.1.has f st.1.stands

-- ---- the first fault

has_taken : (apps : List App) (i j : ℕ) (d : App) → j < i → j < length apps → Has (take i apps) (get_or apps j d)
has_taken [] i j d less lt = absurd (omega (arith, lt))
has_taken (x ∷ xs) zero j d less lt = absurd (omega (arith, less))
has_taken (x ∷ xs) (suc i) zero d less lt = inl refl
has_taken (x ∷ xs) (suc i) (suc j) d less lt = inr (has_taken xs i j d (omega (arith, less)) (omega (arith, lt)))

has_at : (apps : List App) (i : ℕ) (d : App) → i < length apps → Has apps (get_or apps i d)
has_at [] i d lt = absurd (omega (arith, lt))
has_at (x ∷ xs) zero d lt = inl refl
has_at (x ∷ xs) (suc i) d lt = inr (has_at xs i d (omega (arith, lt)))

-- where there are two applications, a group is named
group_place : (apps : List App) (i : ℕ) (d : App) → are_unequal (groups_of apps) ≡ true → 1 < length apps → i < length apps → place_of apps (named_group apps (get_or apps i d)) ≡ i
group_place apps i d un two lt = let t = lt-ltb 1 (length apps) two in rw t (place_is apps i d un lt)

ahead : (p q i j : ℕ) (f g : OutputFault) → p ≡ i → q ≡ j → i < j → is_gt (ordering_then (nat_cmp p q) (outputs.fault_cmp f g)) ≡ false
ahead p q i j f g e h lt =
    let l : nat_cmp p q ≡ Less = nat_less p q (omega (arith, e, h, lt)) in
    rw l refl

level : (p q : ℕ) (f g : OutputFault) → p ≡ q → UpTo outputs.fault_cmp f g → is_gt (ordering_then (nat_cmp p q) (outputs.fault_cmp f g)) ≡ false
level p q f g e u =
    let t : nat_cmp p q ≡ Equal = subst (λ z. nat_cmp p z ≡ Equal) e (tied_itself nat_cmp_total p) in
    rw t u

pub first_fault : (apps : List App) (ps : List PartLog) (i : ℕ) (d : App) (m n : ℕ) (f : OutputFault) → are_unequal (groups_of apps) ≡ true → i < length apps → NoneStands (records.Stands apps ps)
    → PassedSoFar (take i apps) ps m n → IsLeast outputs.fault_cmp (outputs.Stands (application_of (get_or apps i d) ps)) f
    → IsLeast (lineage_cmp apps) (Stands apps ps) (Output (named_group apps (get_or apps i d)) f)
first_fault apps ps i d m n f un lt none s l = record {
  stands = (none, record { app = get_or apps i d; has = has_at apps i d lt; named = refl; stands = l.stands });
  least = every;
}
  where
    same_level : (h : Option Group) (g : OutputFault) (t : App) → h ≡ named_group apps t → outputs.Stands (application_of t ps) g → get_or apps i d ≡ t
        → is_gt (ordering_then (nat_cmp (place_of apps (named_group apps (get_or apps i d))) (place_of apps h)) (outputs.fault_cmp f g)) ≡ false
    same_level h g t e st q = level (place_of apps (named_group apps (get_or apps i d))) (place_of apps h) f g
        (ap (λ (u : App). place_of apps (named_group apps u)) q ∙ ap (place_of apps) (sym e))
        (l.least g (subst (λ (u : App). outputs.Stands (application_of u ps) g) (sym q) st))

    later : (h : Option Group) (g : OutputFault) (t : App) (j : ℕ) → h ≡ named_group apps t → j < length apps → get_or apps j d ≡ t → i < j
        → is_gt (ordering_then (nat_cmp (place_of apps (named_group apps (get_or apps i d))) (place_of apps h)) (outputs.fault_cmp f g)) ≡ false
    later h g t j e jt at less =
        let two : 1 < length apps = omega (arith, jt, less) in
        let p = group_place apps i d un two lt in
        let q = ap (place_of apps) e ∙ (ap (λ (u : App). place_of apps (named_group apps u)) (sym at) ∙ group_place apps j d un two jt) in
        ahead (place_of apps (named_group apps (get_or apps i d))) (place_of apps h) i j f g p q less

    every : (g : LineageFault) → Stands apps ps g → UpTo (lineage_cmp apps) (Output (named_group apps (get_or apps i d)) f) g
    every (Record g) st = absurd (none g st)
    every (Output h g) st =
        let t = st.1.app in
        let k = has_index apps t st.1.has in
        elim (cases_lt k.0 i) [
          | inl before ↦ absurd (s.none t (subst (Has (take i apps)) (k.2 d) (has_taken apps i k.0 d before k.1)) g st.1.stands)
          | inr from ↦ elim (cases_lt i k.0) [
            | inl after ↦ later h g t k.0 st.1.named k.1 (k.2 d) after
            | inr upto ↦ let e : k.0 ≡ i = omega (arith, from, upto) in same_level h g t st.1.named st.1.stands (subst (λ j. get_or apps j d ≡ t) e (k.2 d))
          ]
        ]

-- ---- the applications of a spec

pub unequal_groups : (parts : SpecFields) → IsAccepted parts → are_unequal (groups_of parts.apps) ≡ true
unequal_groups parts are = go (are_legal_apps parts.apps) refl
  where
    go : (b : Bool) → are_legal_apps parts.apps ≡ b → are_unequal (groups_of parts.apps) ≡ true
    go false e = let q = sym (refused_apps parts e) ∙ are.as_it_is in absurd cc
    go true e = (parts_of_and _ (are_unequal (groups_of parts.apps)) (parts_of_and _ (are_unequal (outputs_of parts.apps)) e).0).1

-- ---- a fault of a record

pub least_record : (apps : List App) (ps : List PartLog) (f : VisibleFault) → IsLeast records.visible_cmp (records.Stands apps ps) f → IsLeast (lineage_cmp apps) (Stands apps ps) (Record f)
least_record apps ps f l = record { stands = l.stands; least = every }
  where
    every : (g : LineageFault) → Stands apps ps g → UpTo (lineage_cmp apps) (Record f) g
    every (Record g) st = l.least g st
    every (Output h g) st = refl

pub take_all : {X : Type 0} (xs : List X) (i : ℕ) → length xs ≤ i → take i xs ≡ xs
take_all [] zero le = refl
take_all [] (suc i) le = refl
take_all (x ∷ xs) zero le = absurd (omega (arith, le))
take_all {X} (x ∷ xs) (suc i) le = ap (λ (ys : List X). x ∷ ys) (take_all xs i (omega (arith, le)))
