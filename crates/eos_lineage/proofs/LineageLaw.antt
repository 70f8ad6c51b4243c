-- The laws of the lineage: from those of one application's outputs, and of single records.
use Rattle.std.proofs.Common.{◌≡◌, ℕ, suc, List, [], ◌∷◌, Option, Some, None, length, refl, sym, subst, ap, ◌∙◌, inl, inr, true, false, Bool, if◌then◌else◌}
use Rattle.std.specs.Prelude.{nat_lt}
use Rattle.std.specs.Cmp.{IsTotalOrder}
use Rattle.std.specs.Cmp.Lexicographic.{slice_cmp}
use Rattle.std.specs.Ordering.{nat_cmp, on, then_cmp}
use Rattle.std.specs.declared.cmp.Ordering.{Ordering}
use Rattle.std.specs.declared.cmp.Ordering.TheVariants.{Equal}
use Rattle.std.proofs.lemmas.Cmp.{nat_cmp_total, nat_list_cmp_total, then_total, on_total, tied_itself}
use Rattle.eos_base.specs.Members.{Has}
use Rattle.eos_base.specs.Least.{NoneStands, IsLeast}
use Rattle.eos_base.specs.steps.Least.{IsExact}
use Rattle.eos_base.proofs.Exact.{then_parts, nat_exact, bytes_exact, is_tied}
use Rattle.eos_base.proofs.Decides.{differs}
use Rattle.eos_base.proofs.LeastOf.{both_least, one_least}
use Rattle.eos_base.proofs.Membership.{flat_has, map_has, filter_has, found_has}
use Rattle.eos_evidence.specs.declared.application.App.{App}
use Rattle.eos_fold.specs.Parts.{part_name, PartLog}
use Rattle.eos_claims.specs.declared.place.Place.{Place}
use Rattle.eos_claims.specs.declared.fault.OutputFault.{OutputFault}
use Rattle.eos_claims.specs.Outputs.{ReadsSources}
use Rattle.eos_claims.specs.Faults as outputs
use Rattle.eos_claims.proofs.OutputsLaw.{law as outputs_law}
use Rattle.eos_claims.proofs.FaultOrder.{fault_total, fault_exact}
use Rattle.eos_commits.specs.Visible.{visible}
use Rattle.eos_commits.specs.Commits.{Group, is_same}
use Rattle.eos_commits.specs.Faults as records
use Rattle.eos_verdict.specs.declared.visible_fault.VisibleFault.{VisibleFault}
use Rattle.eos_commits.proofs.RecordsLaw.{law as records_law}
use Rattle.eos_commits.proofs.VisibleOrder.{visible_total, visible_exact}
use Rattle.eos_verdict.specs.declared.lineage_fault.LineageFault.{LineageFault}
use Rattle.eos_verdict.specs.declared.lineage_fault.LineageFault.TheVariants.{Record, Output}
use Rattle.eos_commits.specs.Applications.{is_part_of, parts_of, place_in, inputs_in, application_of}
use Rattle.eos_lineage.specs.Lineage.{ExactOutputs, LineageKept}
use Rattle.eos_lineage.specs.Faults.{named_group, StandsInOutputs, Stands, place_of_group, place_of, lineage_cmp}

-- ---- inputs are of source topics

pub reads : (app : App) (ps : List PartLog) → ReadsSources (application_of app ps)
reads app ps i h =
    let r = flat_has inputs_in (parts_of app.sources ps) i h in
    let p = filter_has (is_part_of app.sources) ps r.0 r.1 in
    let m = map_has (place_in (part_name r.0)) (visible r.0) i r.2 in
    subst (λ (j : Place). Has app.sources j.partition.topic) m.2 (found_has (slice_cmp nat_cmp) bytes_exact app.sources r.0.topic p.1)

-- ---- exact where nothing stands

pub exact_law : (apps : List App) (ps : List PartLog) → (ExactOutputs apps ps → (group : Option Group) (f : OutputFault) → StandsInOutputs apps ps group f → ⊥)
    × (((group : Option Group) (f : OutputFault) → StandsInOutputs apps ps group f → ⊥) → ExactOutputs apps ps)
exact_law apps ps = (
  λ exact group f s. (outputs_law (application_of s.app ps) (reads s.app ps)).0 (exact s.app s.has) f s.stands,
  λ none app has. (outputs_law (application_of app ps) (reads app ps)).1 (λ f st. none (named_group apps app) f (record { app = app; has = has; named = refl; stands = st })),
)

refuted : (apps : List App) (ps : List PartLog) → LineageKept apps ps → (f : LineageFault) → Stands apps ps f → ⊥
refuted apps ps kept (Record f) s = (records_law apps ps).0 kept.records f s
refuted apps ps kept (Output group f) s = (exact_law apps ps).0 kept.outputs group f s.1

pub law : (apps : List App) (ps : List PartLog) → (LineageKept apps ps → NoneStands (Stands apps ps)) × (NoneStands (Stands apps ps) → LineageKept apps ps)
law apps ps = (
  refuted apps ps,
  λ none. record {
    records = (records_law apps ps).1 (λ f s. none (Record f) s);
    outputs = (exact_law apps ps).1 (λ group f s. none (Output group f) (λ g t. none (Record g) t, s));
  },
)

-- ---- one least fault

pub same_true : (g h : Group) → is_same g h ≡ true → g ≡ h
same_true g h e = bytes_exact g h (is_tied (slice_cmp nat_cmp g h) e)

pub true_same : (g h : Group) → g ≡ h → is_same g h ≡ true
true_same g h e = let t : slice_cmp nat_cmp g h ≡ Equal = subst (λ z. slice_cmp nat_cmp g z ≡ Equal) e (tied_itself nat_list_cmp_total g) in rw t refl

-- groups of applications at one place are one
one_group : (apps : List App) (a b : App) → Has apps a → Has apps b → place_of_group a.group apps ≡ place_of_group b.group apps → a.group ≡ b.group
one_group [] a b h k e = absurd h
one_group (x ∷ xs) a b h k e = go (one_group xs a b) (is_same x.group a.group) (is_same x.group b.group) refl refl e
  where
    here : (c : App) → is_same x.group c.group ≡ false → x ≡ c → ⊥
    here c f q = differs (is_same x.group c.group) f (true_same x.group c.group (ap (λ (y : App). y.group) q))

    later : (c : App) → is_same x.group c.group ≡ false → Has (x ∷ xs) c → Has xs c
    later c f (inl q) = absurd (here c f q)
    later c f (inr m) = m

    go : (Has xs a → Has xs b → place_of_group a.group xs ≡ place_of_group b.group xs → a.group ≡ b.group) → (t u : Bool) → is_same x.group a.group ≡ t → is_same x.group b.group ≡ u
        → (if t then 0 else suc (place_of_group a.group xs)) ≡ (if u then 0 else suc (place_of_group b.group xs)) → a.group ≡ b.group
    go more true true p q s = sym (same_true x.group a.group p) ∙ same_true x.group b.group q
    go more true false p q s = absurd cc
    go more false true p q s = absurd cc
    go more false false p q s = more (later a p h) (later b q k) cc

one_named : (apps : List App) (a b : App) → Has apps a → Has apps b → place_of apps (named_group apps a) ≡ place_of apps (named_group apps b) → named_group apps a ≡ named_group apps b
one_named apps a b h k = go (nat_lt 1 (length apps))
  where
    go : (t : Bool) → place_of apps (if t then Some a.group else None) ≡ place_of apps (if t then Some b.group else None)
        → (if t then Some a.group else None) ≡ (if t then Some b.group else None)
    go true e = ap Some (one_group apps a b h k e)
    go false e = refl

-- by the application's place, then as one application's faults
abbrev pub placed_cmp : ℕ × OutputFault → ℕ × OutputFault → Ordering
placed_cmp = then_cmp (on (λ x. x.0) nat_cmp) (on (λ x. x.1) outputs.fault_cmp)

pub placed_total : IsTotalOrder placed_cmp
placed_total = then_total (on_total (λ x. x.0) nat_cmp_total) (on_total (λ x. x.1) fault_total)

pub placed_exact : IsExact placed_cmp
placed_exact x y e =
    let r = then_parts (nat_cmp x.0 y.0) (outputs.fault_cmp x.1 y.1) e in
    let p = nat_exact x.0 y.0 r.0 in
    let q = fault_exact x.1 y.1 r.1 in
    λ i. (p i, q i)

record_least : (apps : List App) (ps : List PartLog) (f : VisibleFault) → IsLeast (lineage_cmp apps) (Stands apps ps) (Record f) → IsLeast records.visible_cmp (records.Stands apps ps) f
record_least apps ps f l = record { stands = l.stands; least = λ g s. l.least (Record g) s }

one_output : (apps : List App) (ps : List PartLog) (h i : Option Group) (f g : OutputFault) → StandsInOutputs apps ps h f → StandsInOutputs apps ps i g
    → place_of apps h ≡ place_of apps i → f ≡ g → Output h f ≡ Output i g
one_output apps ps h i f g s t p q =
    let r : h ≡ i = s.named ∙ (one_named apps s.app t.app s.has t.has (ap (place_of apps) (sym s.named) ∙ (p ∙ ap (place_of apps) t.named)) ∙ sym t.named) in
    λ k. Output (r k) (q k)

abbrev first : ℕ × OutputFault → ℕ
first x = x.0

abbrev second : ℕ × OutputFault → OutputFault
second x = x.1

pub unique : (apps : List App) (ps : List PartLog) (f g : LineageFault) → IsLeast (lineage_cmp apps) (Stands apps ps) f → IsLeast (lineage_cmp apps) (Stands apps ps) g → f ≡ g
unique apps ps (Record f) (Record g) l m = ap Record (one_least visible_total visible_exact (records.Stands apps ps) f g (record_least apps ps f l) (record_least apps ps g m))
unique apps ps (Record f) (Output i g) l m = absurd (m.stands.0 f l.stands)
unique apps ps (Output h f) (Record g) l m = absurd (l.stands.0 g m.stands)
unique apps ps (Output h f) (Output i g) l m =
    let e = both_least placed_total placed_exact (place_of apps h, f) (place_of apps i, g) (l.least (Output i g) m.stands) (m.least (Output h f) l.stands) in
    one_output apps ps h i f g l.stands.1 m.stands.1 (ap first e) (ap second e)
