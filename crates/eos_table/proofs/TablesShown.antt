-- What is shown by look-ups is what each place of a shard shows.
use Rattle.std.proofs.Common.{◌≡◌, ℕ, ℤ, List, [], ◌∷◌, ◌++◌, map, length, Some, None, refl, sym, subst, ap, ◌∙◌, inl, true, false, Bool, ◌&&◌, if◌then◌else◌, IsPermutation, cond, arith}
use Rattle.std.specs.Prelude.{nat_lt}
use Rattle.std.specs.List.{flat_map, list_any}
use Rattle.std.specs.Ordering.{is_eq}
use Rattle.std.proofs.lemmas.Bool.{lt-ltb}
use Rattle.std.proofs.lemmas.List.Sorted.{list_any-IsPermutation}
use Rattle.eos_base.specs.declared.partition_name.PartitionName.{PartitionName}
use Rattle.eos_base.specs.Members.{Has, is_found}
use Rattle.eos_base.specs.PartitionNames.{name_cmp}
use Rattle.eos_base.proofs.Decides.{differs}
use Rattle.eos_base.proofs.Membership.{has_filter, filter_has, only}
use Rattle.eos_batch.specs.declared.marker.Kind.{Kind}
use Rattle.eos_batch.specs.declared.marker.Marker.{Marker}
use Rattle.eos_txnlog.specs.declared.decision.Decision.{Decision}
use Rattle.eos_txnlog.specs.PartitionSets.{names_of}
use Rattle.eos_fold.specs.declared.close.Close.{Close}
use Rattle.eos_fold.specs.Parts.{part_name, PartLog}
use Rattle.eos_verdict.specs.declared.match_fault.MatchFault.{MatchFault}
use Rattle.eos_verdict.specs.declared.match_fault.MatchFaultKind.TheVariants.{TwiceDecided, WrongKind, NotListed, AbsentPartition, MissingMarker, StrayMarker}
use Rattle.eos_table.specs.MatchFaults.{is_of, deciders}
use Rattle.eos_table.specs.Atomic.{Ends}
use Rattle.eos_table.proofs.AtomicLaw.{true_is_of, is_of_true}
use Rattle.eos_table.proofs.KeyExact.{finds_listed, finds_ended}
use Rattle.eos_table.specs.MatchPlaces.{fault_of, unless, lists_name, ends_as, ends, at_decision, of_deciders, at_close, at_marker, has_marker, at_listed}
use Rattle.eos_table.specs.steps.Deciders.{kept_of, decided_in, AreDeciders}
use Rattle.eos_table.specs.steps.Keys.{mine, listed_cmp, ended_cmp, listed, ended, marked, names}
use Rattle.eos_table.specs.steps.Shown.{Kept, Lists, Ends as EndKeys, in_shard, twice_by, decision_by, decision_in, data_by, close_by, marker_by, name_by, listed_by, closes_in, markers_in, names_in, decisions_at, closes_at, markers_at, names_at}
use Rattle.eos_table.proofs.KeyMembers.{ended_key, in_listed, to_listed, in_ended, to_ended, in_marked, to_marked}
use Rattle.eos_table.proofs.PlaceTests.{and_parts, both_true, has_any, any_has, ends_is, is_ends, lists_is, is_lists, marker_is, is_marker}

same_tests : (a b : Bool) → (a ≡ true → b ≡ true) → (b ≡ true → a ≡ true) → a ≡ b
same_tests true b f g = sym (f refl)
same_tests false true f g = g refl
same_tests false false f g = refl

flat_same : {X Y : Type 0} (f g : X → List Y) → ((x : X) → f x ≡ g x) → (xs : List X) → flat_map f xs ≡ flat_map g xs
flat_same f g e [] = refl
flat_same f g e (x ∷ xs) = ap (λ z. z ++ flat_map f xs) (e x) ∙ ap (λ z. g x ++ z) (flat_same f g e xs)

-- ---- a shard

-- what it shows, where it is the shard's
in_same : (n s : ℕ) (p : ℤ) (xs ys : List MatchFault) → (mine n s p ≡ true → xs ≡ ys) → in_shard n s p xs ≡ in_shard n s p ys
in_same n s p xs ys f = go (mine n s p) f
  where
    go : (b : Bool) → (b ≡ true → xs ≡ ys) → (if b then xs else []) ≡ (if b then ys else [])
    go true f = f refl
    go false f = refl

-- its decisions of a producer id of its own are all of them
own_deciders : (n s : ℕ) (ds : List Decision) (p e : ℤ) → mine n s p ≡ true → deciders (decided_in n s ds) p e ≡ deciders ds p e
own_deciders n s [] p e m = refl
own_deciders n s (d ∷ ds) p e m = go (mine n s d.producer) (is_of p e d) refl refl (own_deciders n s ds p e m)
  where
    go : (a b : Bool) → mine n s d.producer ≡ a → is_of p e d ≡ b → deciders (decided_in n s ds) p e ≡ deciders ds p e
        → deciders (cond a (d ∷ decided_in n s ds) (decided_in n s ds)) p e ≡ cond b (d ∷ deciders ds p e) (deciders ds p e)
    go false false q r ih = ih
    go false true q r ih = let t = true_is_of d p e r in absurd (differs _ q (subst (λ z. mine n s z ≡ true) (sym t.0) m))
    go true false q r ih = rw r ih
    go true true q r ih = rw r (ap (λ z. d ∷ z) ih)

abbrev marked_at : PartitionName → Marker → ℤ × ℤ × Kind × PartitionName
marked_at name m = (m.producer, m.epoch, m.kind, name)

-- a decision and a marker of one key
one_key : (d : Decision) (m : Marker) (x n : PartitionName) → ended_key d x ≡ marked_at n m → Ends d m
one_key d m x n e = record { producer = λ i. (e i).0; epoch = λ i. (e i).1; kind = λ i. (e i).2 }

-- ---- decisions

twice_same : (xs : List Decision) (d : Decision) → twice_by (kept_of xs) d ≡ (if nat_lt 1 (length xs) then fault_of d.producer d.epoch None TwiceDecided ∷ [] else [])
twice_same [] d = refl
twice_same (x ∷ []) d = refl
twice_same (x ∷ y ∷ xs) d =
    let two : nat_lt 1 (length (x ∷ y ∷ xs)) ≡ true = lt-ltb 1 (length (x ∷ y ∷ xs)) (omega arith) in
    rw two refl

pub all_decisions : (n s : ℕ) (ds : List Decision) (kept : Kept) → AreDeciders kept (decided_in n s ds) → flat_map (decision_in n s kept) ds ≡ decisions_at n s ds
all_decisions n s ds kept are =
    flat_same (decision_in n s kept) (λ (d : Decision). in_shard n s d.producer (at_decision ds d))
    (λ d. in_same n s d.producer (decision_by kept d) (at_decision ds d)
    (λ m. ap (λ z. twice_by z d) (are d.producer d.epoch ∙ ap kept_of (own_deciders n s ds d.producer d.epoch m)) ∙ twice_same (deciders ds d.producer d.epoch) d)) ds

-- ---- data

-- where there is one decision, it is the one that lists the partition
listed_same : (n s : ℕ) (ds : List Decision) (lists : Lists) → IsPermutation (listed n s ds) lists → (p e : ℤ) (name : PartitionName) (d : Decision) → mine n s p ≡ true → deciders ds p e ≡ d ∷ []
    → is_found listed_cmp lists (p, e, name) ≡ lists_name name d
listed_same n s ds lists same p e name d m q = same_tests _ _ there back
  where
    there : is_found listed_cmp lists (p, e, name) ≡ true → lists_name name d ≡ true
    there t =
        let r = in_listed n s ds (p, e, name) ((finds_listed (listed n s ds) lists same).there (p, e, name) t) in
        let key = r.4 in
        let own : Has (deciders ds p e) r.0 = has_filter (is_of p e) ds r.0 r.1 (is_of_true r.0 p e (λ i. (key i).0) (λ i. (key i).1)) in
        let is_d : d ≡ r.0 = only d r.0 (subst (λ z. Has z r.0) q own) in
        let named : Has (names_of r.0.partitions) name = subst (Has (names_of r.0.partitions)) (λ i. (key i).2) r.3 in
        is_lists d name (subst (λ (z : Decision). Has (names_of z.partitions) name) (sym is_d) named)

    back : lists_name name d ≡ true → is_found listed_cmp lists (p, e, name) ≡ true
    back t =
        let r = filter_has (is_of p e) ds d (subst (λ z. Has z d) (sym q) (inl refl)) in
        let o = true_is_of d p e r.1 in
        let member = to_listed n s ds d r.0 (subst (λ z. mine n s z ≡ true) (sym o.0) m) name (lists_is d name t) in
        (finds_listed (listed n s ds) lists same).found (p, e, name) (subst (Has (listed n s ds)) (λ i. (o.0 i, o.1 i, name)) member)

data_same : (n s : ℕ) (ds : List Decision) (lists : Lists) → IsPermutation (listed n s ds) lists → (name : PartitionName) (c : Close) → mine n s c.producer ≡ true → (xs : List Decision) → deciders ds c.producer c.epoch ≡ xs
    → data_by (kept_of xs) (is_found listed_cmp lists (c.producer, c.epoch, name)) name c ≡ of_deciders xs name c
data_same n s ds lists same name c m [] q = refl
data_same n s ds lists same name c m (d ∷ []) q =
    ap (λ z. unless (ends_as d c) (fault_of c.producer c.epoch (Some name) WrongKind) ++ unless z (fault_of c.producer c.epoch (Some name) NotListed)) (listed_same n s ds lists same c.producer c.epoch name d m q)
data_same n s ds lists same name c m (d ∷ x ∷ xs) q = refl

close_same : (n s : ℕ) (ds : List Decision) (kept : Kept) (lists : Lists) → AreDeciders kept (decided_in n s ds) → IsPermutation (listed n s ds) lists → (name : PartitionName) (c : Close)
    → in_shard n s c.producer (close_by kept lists name c) ≡ in_shard n s c.producer (at_close ds name c)
close_same n s ds kept lists are same name c = in_same n s c.producer (close_by kept lists name c) (at_close ds name c)
    (λ m. ap (λ z. data_by z (is_found listed_cmp lists (c.producer, c.epoch, name)) name c) (are c.producer c.epoch ∙ ap kept_of (own_deciders n s ds c.producer c.epoch m))
    ∙ data_same n s ds lists same name c m (deciders ds c.producer c.epoch) refl)

pub all_closes : (n s : ℕ) (ds : List Decision) (ps : List PartLog) (kept : Kept) (lists : Lists) → AreDeciders kept (decided_in n s ds) → IsPermutation (listed n s ds) lists → flat_map (closes_in n s kept lists) ps ≡ closes_at n s ds ps
all_closes n s ds ps kept lists are same =
    flat_same (closes_in n s kept lists) (λ (p : PartLog). flat_map (λ (c : Close). in_shard n s c.producer (at_close ds (part_name p) c)) p.closes)
    (λ p. flat_same (λ (c : Close). in_shard n s c.producer (close_by kept lists (part_name p) c)) (λ (c : Close). in_shard n s c.producer (at_close ds (part_name p) c)) (close_same n s ds kept lists are same (part_name p)) p.closes) ps

-- ---- end markers

wanted_same : (n s : ℕ) (ds : List Decision) (wanted : EndKeys) → IsPermutation (ended n s ds) wanted → (name : PartitionName) (m : Marker) → mine n s m.producer ≡ true
    → is_found ended_cmp wanted (m.producer, m.epoch, m.kind, name) ≡ list_any (λ (d : Decision). ends d m && lists_name name d) ds
wanted_same n s ds wanted same name m own = same_tests _ _ there back
  where
    test : Decision → Bool
    test d = ends d m && lists_name name d

    there : is_found ended_cmp wanted (m.producer, m.epoch, m.kind, name) ≡ true → list_any test ds ≡ true
    there t =
        let r = in_ended n s ds (m.producer, m.epoch, m.kind, name) ((finds_ended (ended n s ds) wanted same).there (m.producer, m.epoch, m.kind, name) t) in
        let key = r.4 in
        let named : Has (names_of r.0.partitions) name = subst (Has (names_of r.0.partitions)) (λ i. (key i).3) r.3 in
        has_any test ds r.0 r.1 (both_true (ends r.0 m) (lists_name name r.0) (is_ends r.0 m (one_key r.0 m r.2 name key)) (is_lists r.0 name named))

    back : list_any test ds ≡ true → is_found ended_cmp wanted (m.producer, m.epoch, m.kind, name) ≡ true
    back t =
        let r = any_has test ds t in
        let b = and_parts (ends r.0 m) (lists_name name r.0) r.2 in
        let o = ends_is r.0 m b.0 in
        let member = to_ended n s ds r.0 r.1 (subst (λ z. mine n s z ≡ true) (sym o.producer) own) name (lists_is r.0 name b.1) in
        (finds_ended (ended n s ds) wanted same).found (m.producer, m.epoch, m.kind, name) (subst (Has (ended n s ds)) (λ i. (o.producer i, o.epoch i, o.kind i, name)) member)

pub all_markers : (n s : ℕ) (ds : List Decision) (ps : List PartLog) (wanted : EndKeys) → IsPermutation (ended n s ds) wanted → flat_map (markers_in n s wanted) ps ≡ markers_at n s ds ps
all_markers n s ds ps wanted same =
    flat_same (markers_in n s wanted) (λ (p : PartLog). flat_map (λ (m : Marker). in_shard n s m.producer (at_marker ds (part_name p) m)) p.markers)
    (λ p. flat_same (λ (m : Marker). in_shard n s m.producer (marker_by wanted (part_name p) m)) (λ (m : Marker). in_shard n s m.producer (at_marker ds (part_name p) m))
    (λ m. in_same n s m.producer (marker_by wanted (part_name p) m) (at_marker ds (part_name p) m)
    (λ own. ap (λ z. unless z (fault_of m.producer m.epoch (Some (part_name p)) StrayMarker)) (wanted_same n s ds wanted same (part_name p) m own))) p.markers) ps

-- ---- listed partitions

marked_same : (n s : ℕ) (ps : List PartLog) (there : EndKeys) → IsPermutation (marked n s ps) there → (d : Decision) (name : PartitionName) → mine n s d.producer ≡ true
    → is_found ended_cmp there (d.producer, d.marker_epoch, d.kind, name) ≡ list_any (has_marker d name) ps
marked_same n s ps keys same d name own = same_tests _ _ there back
  where
    there : is_found ended_cmp keys (d.producer, d.marker_epoch, d.kind, name) ≡ true → list_any (has_marker d name) ps ≡ true
    there t =
        let r = in_marked n s ps (d.producer, d.marker_epoch, d.kind, name) ((finds_ended (marked n s ps) keys same).there (d.producer, d.marker_epoch, d.kind, name) t) in
        let key = r.4 in
        has_any (has_marker d name) ps r.0 r.1 (is_marker d name r.0 r.2 (λ i. (key i).3) r.3 (one_key d r.2 name (part_name r.0) (sym key)))

    back : list_any (has_marker d name) ps ≡ true → is_found ended_cmp keys (d.producer, d.marker_epoch, d.kind, name) ≡ true
    back t =
        let r = any_has (has_marker d name) ps t in
        let m = marker_is d name r.0 r.2 in
        let o = m.1.2 in
        let member = to_marked n s ps r.0 r.1 m.1.0 m.1.1 (subst (λ z. mine n s z ≡ true) o.producer own) in
        (finds_ended (marked n s ps) keys same).found (d.producer, d.marker_epoch, d.kind, name) (subst (Has (marked n s ps)) (λ i. (sym o.producer i, sym o.epoch i, sym o.kind i, m.0 i)) member)

name_same : (n s : ℕ) (ps : List PartLog) (there : List PartitionName) (marks : EndKeys) → IsPermutation (names ps) there → IsPermutation (marked n s ps) marks → (d : Decision) (name : PartitionName) → mine n s d.producer ≡ true
    → name_by there marks d name ≡ at_listed ps d name
name_same n s ps there marks names_same marks_same d name own =
    let found : is_found name_cmp there name ≡ is_found name_cmp (map part_name ps) name = sym (list_any-IsPermutation (λ y. is_eq (name_cmp y name)) (names ps) there names_same) in
    let marked = marked_same n s ps marks marks_same d name own in
    λ i. if found i then unless (marked i) (fault_of d.producer d.epoch (Some name) MissingMarker) else fault_of d.producer d.epoch (Some name) AbsentPartition ∷ []

pub all_names : (n s : ℕ) (ds : List Decision) (ps : List PartLog) (there : List PartitionName) (marks : EndKeys) → IsPermutation (names ps) there → IsPermutation (marked n s ps) marks
    → flat_map (names_in n s there marks) ds ≡ names_at n s ds ps
all_names n s ds ps there marks names_same marks_same =
    flat_same (names_in n s there marks) (λ (d : Decision). in_shard n s d.producer (flat_map (at_listed ps d) (names_of d.partitions)))
    (λ d. in_same n s d.producer (listed_by there marks d) (flat_map (at_listed ps d) (names_of d.partitions))
    (λ own. flat_same (name_by there marks d) (at_listed ps d) (λ name. name_same n s ps there marks names_same marks_same d name own) (names_of d.partitions))) ds
