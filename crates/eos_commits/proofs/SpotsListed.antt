-- What the walk lists of all records is what stands, in order.
use Rattle.std.proofs.Common.{◌≡◌, ◌∙◌, ◌⊎◌, ◌<ℤ◌, ◌≤ℤ◌, ℤ, Bool, true, false, Option, Some, None, List, [], ◌∷◌, refl, sym, ap, subst, inl, inr, arith, IsPermutation}
use Rattle.std.specs.List.Sorted.{IsStrictlySortedBy}
use Rattle.std.specs.Ordering.{MatchOrdering, nat_cmp, int_cmp, ordering_then}
use Rattle.std.specs.Cmp.Lexicographic.{slice_cmp}
use Rattle.std.specs.declared.cmp.Ordering.{Ordering}
use Rattle.std.specs.declared.cmp.Ordering.TheVariants.{Less, Equal, Greater}
use Rattle.std.proofs.lemmas.Int.{ints}
use Rattle.std.proofs.lemmas.Cmp.{nat_list_cmp_total, int_ranked, tied_itself}
use Rattle.eos_base.specs.Members.{Has}
use Rattle.eos_base.specs.PartitionNames.{name_cmp}
use Rattle.eos_base.proofs.Exact.{bytes_exact, is_tied}
use Rattle.eos_base.proofs.Membership.{append_cases, append_left, append_right}
use Rattle.eos_claims.proofs.ClaimTests.{less_is, is_less_int}
use Rattle.eos_evidence.specs.declared.application.App.{App}
use Rattle.eos_evidence.specs.SpecFields.{outputs_of}
use Rattle.eos_fold.specs.Parts.{part_name, PartLog}
use Rattle.eos_verdict.specs.declared.visible_fault.VisibleFault.{VisibleFault}
use Rattle.eos_verdict.specs.declared.visible_fault.VisibleFaultKind.{VisibleFaultKind}
use Rattle.eos_verdict.specs.declared.visible_fault.VisibleFaultKind.TheVariants.{SplitGroup}
use Rattle.eos_commits.specs.Commits.{Group, is_same, is_offsets_part}
use Rattle.eos_commits.specs.Faults.{visible_cmp, Stands, AreInOrder}
use Rattle.eos_commits.specs.steps.Roles.{sources_of, RoleSets}
use Rattle.eos_commits.proofs.RecordsLaw.{int_order}
use Rattle.eos_commits.proofs.RoleSearch.{AreRoles, roles}
use Rattle.eos_commits.proofs.Spots.{Spot, spots, Before, Up, in_order, IsCommit, ShowsAs, fault_of, to_stands, from_stands}
use Rattle.eos_base.specs.AllOf.{IsAllOf}
use Rattle.eos_commits.specs.steps.Gathered.{Homes, nowhere, is_below, first_home, met, gathered}
use Rattle.eos_commits.proofs.HomesMet.{same}
use Rattle.eos_commits.proofs.SpotFold.{unclaimed_at, commit_at, next_homes, at_spot, after, gathered_is}
use Rattle.eos_commits.proofs.SpotFaults.{listed_has, has_listed, rises_append, listed_rises}
use Rattle.eos_commits.proofs.SpotJudged.{one_group, Splits, judged, told, tells}

-- ---- the order of partitions of the offsets log

greater : (a b : ℤ) → b <ℤ a → int_cmp a b ≡ Greater
greater a b lt = go (int_cmp a b) (int_ranked a b (int_cmp a b) refl)
  where
    go : (o : Ordering) → MatchOrdering o (a <ℤ b) (a ≡ b) (b <ℤ a) → o ≡ Greater
    go Less l = absurd (omega (arith, ints, l, lt))
    go Equal e = absurd (omega (arith, ints, e, lt))
    go Greater g = refl

one_topic : (p q : PartLog) → is_offsets_part p ≡ true → is_offsets_part q ≡ true → p.topic ≡ q.topic
one_topic p q e f = bytes_exact p.topic _ (is_tied _ e) ∙ sym (bytes_exact q.topic _ (is_tied _ f))

-- a record before another one isn't in a greater partition
not_after : (z w : Spot) → Before z w → is_offsets_part z.0 ≡ true → is_offsets_part w.0 ≡ true → w.0.number <ℤ z.0.number → ⊥
not_after z w b e f lt =
    let t : slice_cmp nat_cmp z.0.topic w.0.topic ≡ Equal = subst (λ u. slice_cmp nat_cmp z.0.topic u ≡ Equal) (one_topic z.0 w.0 e f) (tied_itself nat_list_cmp_total z.0.topic) in
    let g = greater z.0.number w.0.number lt in
    let bad : Greater ≡ Less = rw (t, g) at b in
    absurd cc

-- ---- what was walked over, and what is left

record Around (all done rest : List Spot) : Type 0 where
  either : (w : Spot) → Has all w → Has done w ⊎ Has rest w
  from_done : (w : Spot) → Has done w → Has all w
  from_rest : (w : Spot) → Has rest w → Has all w
  before : (w v : Spot) → Has done w → Has rest v → Before w v
  up : Up rest

start : (all : List Spot) → Up all → Around all [] all
start all up = record { either = λ w h. inr h; from_done = λ w h. absurd h; from_rest = λ w h. h; before = λ w v h k. absurd h; up = up }

next : (all done : List Spot) (z : Spot) (rest : List Spot) → Around all done (z ∷ rest) → Around all (z ∷ done) rest
next all done z rest a = record {
  either = λ w h. elim (a.either w h) [ inl d ↦ inl (inr d) | inr n ↦ elim n [ inl e ↦ inl (inl e) | inr k ↦ inr k ] ];
  from_done = λ w h. elim h [ inl e ↦ a.from_rest w (inl e) | inr d ↦ a.from_done w d ];
  from_rest = λ w h. a.from_rest w (inr h);
  before = λ w v h k. elim h [ inl e ↦ subst (λ (y : Spot). Before y v) e (a.up.0 v k) | inr d ↦ a.before w v d (inr k) ];
  up = a.up.1;
}

-- the homes are the least partitions of the records before
record Come (apps : List App) (done : List Spot) (hs : Homes) : Type 0 where
  met : (g : Group) (m : ℤ) → hs g ≡ Some m → (w : Spot) × Has done w × IsCommit apps g w × (w.0.number ≡ m)
  known : (g : Group) (w : Spot) → Has done w → IsCommit apps g w → (m : ℤ) × (hs g ≡ Some m) × (m ≤ℤ w.0.number)

come : (apps : List App) → Come apps [] nowhere
come apps = record { met = λ g m e. absurd cc; known = λ g w h c. absurd h }

inside : (m n : ℤ) → Some m ≡ Some n → m ≡ n
inside m n e = cc

same_itself : (g : Group) → is_same g g ≡ true
same_itself g = let e = tied_itself nat_list_cmp_total g in rw (e) refl

module _ (apps : List App) (all done : List Spot) (z : Spot) (rest : List Spot) (hs : Homes) (a : Around all done (z ∷ rest)) (i : Come apps done hs) where
  splits_yes : (g : Group) → IsCommit apps g z → (o : Option ℤ) → hs g ≡ o → is_below o z.0.number ≡ true → ShowsAs apps all z SplitGroup
  splits_yes g c None e b = absurd cc
  splits_yes g c (Some m) e b =
      let w = i.met g m e in
      (g, c, w.0, a.from_done w.0 w.1, w.2, subst (λ y. y <ℤ z.0.number) (sym w.3) (less_is m z.0.number b))

  splits_no : (g : Group) → IsCommit apps g z → ShowsAs apps all z SplitGroup → is_below (hs g) z.0.number ≡ true
  splits_no g c s = elim (a.either s.2 s.3) [
    | inl d ↦
        let here : IsCommit apps g s.2 = subst (λ y. IsCommit apps y s.2) (one_group apps z.1 s.0 g s.1.under c.under) s.4 in
        let home = i.known g s.2 d here in
        let le = home.2 in
        let lt = s.5 in
        let e = home.1 in
        let low : is_below (Some home.0) z.0.number ≡ true = is_less_int home.0 z.0.number (omega (arith, ints, le, lt)) in
        subst (λ (o : Option ℤ). is_below o z.0.number ≡ true) (sym e) low
    | inr n ↦ elim n [
      | inl e ↦ let q = ap (λ (y : Spot). y.0.number) e in let lt = s.5 in absurd (omega (arith, ints, q, lt))
      | inr k ↦ absurd (not_after z s.2 (a.up.0 s.2 k) c.offsets s.4.offsets s.5)
    ]
  ]

  splits : Splits apps all z hs
  splits = record { yes = λ g c b. splits_yes g c (hs g) refl b; no = splits_no }

  -- a group's home isn't above the partition
  home_upto : (g : Group) → IsCommit apps g z → (m : ℤ) → hs g ≡ Some m → m ≤ℤ z.0.number
  home_upto g c m e =
      let w = i.met g m e in
      elim (int_order m z.0.number) [
        | inl q ↦ omega (arith, ints, q)
        | inr (inl lt) ↦ omega (arith, ints, lt)
        | inr (inr lt) ↦ absurd (not_after w.0 z (a.before w.0 z w.1 (inl refl)) w.2.offsets c.offsets (subst (λ y. z.0.number <ℤ y) (sym w.3) lt))
      ]

  stays : ((g : Group) → IsCommit apps g z → ⊥) → Come apps (z ∷ done) hs
  stays nobody = record {
    met = λ g m q. let w = i.met g m q in (w.0, inr w.1, w.2, w.3);
    known = λ g w h c. elim h [ inl q ↦ absurd (nobody g (subst (λ (y : Spot). IsCommit apps g y) (sym q) c)) | inr d ↦ i.known g w d c ];
  }

  module _ (g : Group) (c : IsCommit apps g z) where
    abbrev n : ℤ
    n = z.0.number

    met_here : (h : Group) (m : ℤ) (o : Option ℤ) → hs h ≡ o → (b : Bool) → is_same g h ≡ b → first_home o b n ≡ Some m → (w : Spot) × Has (z ∷ done) w × IsCommit apps h w × (w.0.number ≡ m)
    met_here h m (Some y) e b t q = let w = i.met h y e in (w.0, inr w.1, w.2, w.3 ∙ inside y m q)
    met_here h m None e true t q = (z, inl refl, subst (λ y. IsCommit apps y z) (same g h t) c, inside n m q)
    met_here h m None e false t q = absurd cc

    here : (o : Option ℤ) → hs g ≡ o → (m : ℤ) × (met hs g n g ≡ Some m) × (m ≤ℤ n)
    here (Some m) e = (m, ap (λ (o : Option ℤ). first_home o (is_same g g) n) e, home_upto g c m e)
    here None e = let t = same_itself g in (n, rw (e, t) refl, omega (arith, ints))

    known_here : (h : Group) (w : Spot) → z ≡ w → IsCommit apps h w → (m : ℤ) × (met hs g n h ≡ Some m) × (m ≤ℤ w.0.number)
    known_here h w e d =
        let there : IsCommit apps h z = subst (λ (y : Spot). IsCommit apps h y) (sym e) d in
        let group : g ≡ h = one_group apps z.1 g h c.under there.under in
        let r = here (hs g) refl in
        subst (λ (y : Group). (m : ℤ) × (met hs g n y ≡ Some m) × (m ≤ℤ w.0.number)) group (r.0, r.1, subst (λ (y : Spot). r.0 ≤ℤ y.0.number) e r.2)

    enters : Come apps (z ∷ done) (met hs g n)
    enters = record {
      met = λ h m q. met_here h m (hs h) refl (is_same g h) refl q;
      known = λ h w k d. elim k [
        | inl e ↦ known_here h w e d
        | inr j ↦ let r = i.known h w j d in (r.0, ap (λ (o : Option ℤ). first_home o (is_same g h) n) r.1, r.2)
      ];
    }

  goes_on : (r : RoleSets) → AreRoles apps r → Come apps (z ∷ done) (next_homes r hs z)
  goes_on r are =
      let j = judged apps r all z hs are splits in
      elim j.homes [
        | inl s ↦ subst (Come apps (z ∷ done)) (sym s.0) (stays s.1)
        | inr s ↦ subst (Come apps (z ∷ done)) (sym s.2) (enters s.0 s.1)
      ]

-- ---- in order

less_then : (a b c : Ordering) → ordering_then a b ≡ Less → ordering_then a (ordering_then b c) ≡ Less
less_then Less b c e = refl
less_then Greater b c e = absurd cc
less_then Equal Less c e = refl
less_then Equal Greater c e = absurd cc
less_then Equal Equal c e = absurd cc

later : (z w : Spot) (k l : VisibleFaultKind) → Before z w → visible_cmp (fault_of z k) (fault_of w l) ≡ Less
later z w k l b = less_then (name_cmp (part_name z.0) (part_name w.0)) (nat_cmp z.1.offset w.1.offset) _ b

record Placed (zs : List Spot) (f : VisibleFault) : Type 0 where
  at : Spot
  has : Has zs at
  kind : VisibleFaultKind
  is : fault_of at kind ≡ f

placed : (r : RoleSets) (zs : List Spot) (hs : Homes) (f : VisibleFault) → Has (after r hs zs) f → Placed zs f
placed r [] hs f h = absurd h
placed r (z ∷ zs) hs f h = elim (append_cases (at_spot r hs z) (after r (next_homes r hs z) zs) f h) [
  | inl a ↦ let l = listed_has z (unclaimed_at r z) (commit_at r hs z) f a in record { at = z; has = inl refl; kind = l.kind; is = l.is }
  | inr b ↦ let p = placed r zs (next_homes r hs z) f b in record { at = p.at; has = inr p.has; kind = p.kind; is = p.is }
]

rises : (r : RoleSets) (zs : List Spot) (hs : Homes) → Up zs → IsStrictlySortedBy visible_cmp (after r hs zs)
unfolding IsStrictlySortedBy
rises r [] hs up = tt
rises r (z ∷ zs) hs up = rises_append visible_cmp (at_spot r hs z) (after r (next_homes r hs z) zs) (listed_rises z (unclaimed_at r z) (commit_at r hs z)) (rises r zs (next_homes r hs z) up.1) cross
  where
    cross : (f g : VisibleFault) → Has (at_spot r hs z) f → Has (after r (next_homes r hs z) zs) g → visible_cmp f g ≡ Less
    cross f g h k =
        let l = listed_has z (unclaimed_at r z) (commit_at r hs z) f h in
        let p = placed r zs (next_homes r hs z) g k in
        subst (λ (v : VisibleFault). visible_cmp v g ≡ Less) l.is (subst (λ (v : VisibleFault). visible_cmp (fault_of z l.kind) v ≡ Less) p.is (later z p.at l.kind p.kind (up.0 p.at p.has)))

-- ---- what stands

record Standing (apps : List App) (all : List Spot) (f : VisibleFault) : Type 0 where
  at : Spot
  has : Has all at
  kind : VisibleFaultKind
  shows : ShowsAs apps all at kind
  is : fault_of at kind ≡ f

module _ (apps : List App) (r : RoleSets) (are : AreRoles apps r) (all : List Spot) where
  sound : (rest done : List Spot) (hs : Homes) → Around all done rest → Come apps done hs → (f : VisibleFault) → Has (after r hs rest) f → Standing apps all f
  sound [] done hs a i f h = absurd h
  sound (z ∷ rest) done hs a i f h = elim (append_cases (at_spot r hs z) (after r (next_homes r hs z) rest) f h) [
    | inl b ↦
        let l = listed_has z (unclaimed_at r z) (commit_at r hs z) f b in
        record { at = z; has = a.from_rest z (inl refl); kind = l.kind; shows = told apps r all z hs are (splits apps all done z rest hs a i) l.kind l.tells; is = l.is }
    | inr b ↦ sound rest (z ∷ done) (next_homes r hs z) (next all done z rest a) (goes_on apps all done z rest hs a i r are) f b
  ]

  whole : (rest done : List Spot) (hs : Homes) → Around all done rest → Come apps done hs → (w : Spot) → Has rest w → (k : VisibleFaultKind) → ShowsAs apps all w k → Has (after r hs rest) (fault_of w k)
  whole [] done hs a i w h k s = absurd h
  whole (z ∷ rest) done hs a i w (inl e) k s =
      let t = tells apps r all z hs are (splits apps all done z rest hs a i) k (subst (λ (y : Spot). ShowsAs apps all y k) (sym e) s) in
      let here = has_listed z (unclaimed_at r z) (commit_at r hs z) k t in
      subst (λ (y : Spot). Has (after r hs (z ∷ rest)) (fault_of y k)) e (append_left (at_spot r hs z) (after r (next_homes r hs z) rest) (fault_of z k) here)
  whole (z ∷ rest) done hs a i w (inr h) k s =
      append_right (at_spot r hs z) (after r (next_homes r hs z) rest) (fault_of w k)
      (whole rest (z ∷ done) (next_homes r hs z) (next all done z rest a) (goes_on apps all done z rest hs a i r are) w h k s)

all_listed : (apps : List App) (r : RoleSets) → AreRoles apps r → (ps : List PartLog) → AreInOrder ps → IsAllOf visible_cmp (Stands apps ps) (after r nowhere (spots ps))
all_listed apps r are ps order = record { rises = rises r all nowhere up; members = λ f. (there f, back f) }
  where
    all : List Spot
    all = spots ps

    up : Up all
    up = in_order ps order

    there : (f : VisibleFault) → Has (after r nowhere all) f → Stands apps ps f
    there f h =
        let s = sound apps r are all all [] nowhere (start all up) (come apps) f h in
        subst (Stands apps ps) s.is (to_stands apps ps s.at s.kind s.has s.shows)

    back : (f : VisibleFault) → Stands apps ps f → Has (after r nowhere all) f
    back f st =
        let b = from_stands apps ps f f.kind st in
        subst (Has (after r nowhere all)) b.is (whole apps r are all all [] nowhere (start all up) (come apps) b.at b.has f.kind b.shows)

pub law : (apps : List App) (ps : List PartLog) (r : RoleSets) → IsPermutation (sources_of apps) r.sources → IsPermutation (outputs_of apps) r.outputs → AreInOrder ps
    → IsAllOf visible_cmp (Stands apps ps) (gathered r ps)
law apps ps r p q order = subst (IsAllOf visible_cmp (Stands apps ps)) (sym (gathered_is r ps)) (all_listed apps r (roles apps r p q) ps order)
