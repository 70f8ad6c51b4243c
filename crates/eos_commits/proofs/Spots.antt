-- All records of a log's partitions in one list, in the order of the walk.
use Rattle.std.proofs.Common.{◌≡◌, ◌++◌, ◌<◌, ℕ, List, [], ◌∷◌, map, flat_map, refl, subst, true, Bool, inl, inr, arith, length, suc}
use Rattle.std.specs.Prelude.{⊤, filter, ◌<ℤ◌, None, slice_index_or}
use Rattle.std.specs.List.{AllPairs}
use Rattle.std.specs.Ordering.{nat_cmp, ordering_then}
use Rattle.std.specs.declared.cmp.Ordering.TheVariants.{Less}
use Rattle.std.proofs.lemmas.Cmp.{tied_itself}
use Rattle.eos_base.specs.Members.{Has}
use Rattle.eos_base.specs.PartitionNames.{name_cmp}
use Rattle.eos_base.proofs.Membership.{append_cases, flat_has, has_flat, map_has, has_map, has_filter, filter_has}
use Rattle.eos_base.proofs.NamesInOrder.{name_total}
use Rattle.eos_fold.specs.declared.item.Item.{Item}
use Rattle.eos_fold.specs.Parts.{part_name, PartLog, Rises}
use Rattle.eos_claims.specs.Headers.{claim_of}
use Rattle.eos_claims.proofs.ClaimOrder.{nat_less}
use Rattle.eos_evidence.specs.declared.application.App.{App}
use Rattle.eos_verdict.specs.declared.visible_fault.VisibleFault.{VisibleFault}
use Rattle.eos_verdict.specs.declared.visible_fault.VisibleFaultKind.{VisibleFaultKind}
use Rattle.eos_verdict.specs.declared.visible_fault.VisibleFaultKind.TheVariants.{BadLineage, BadOffset, SplitGroup, OffsetDeleted}
use Rattle.eos_commits.specs.Visible.{is_visible, VisibleIn}
use Rattle.eos_commits.specs.Commits.{Group, is_offsets_part, offsets_parts, value_of, IsUnderGroup}
use Rattle.eos_commits.specs.Kept.{is_output_part, output_parts}
use Rattle.eos_commits.specs.Faults.{AtRecord, CannotRead, StandsAs, Stands, AreInOrder}

-- a record with its partition
abbrev pub Spot : Type 0
Spot = PartLog × Item

abbrev pub spot : PartLog → Item → Spot
spot p x = (p, x)

abbrev pub spots_in : PartLog → List Spot
spots_in p = map (spot p) p.items

abbrev pub spots : List PartLog → List Spot
spots ps = flat_map spots_in ps

-- ---- their order

abbrev pub Before : Spot → Spot → Type 0
Before z w = ordering_then (name_cmp (part_name z.0) (part_name w.0)) (nat_cmp z.1.offset w.1.offset) ≡ Less

abbrev pub Up : List Spot → Type 0
Up [] = ⊤
Up (z ∷ zs) = ((w : Spot) → Has zs w → Before z w) × Up zs

has_index : {X : Type 0} (xs : List X) (y : X) → Has xs y → (j : ℕ) × (j < length xs) × ((d : X) → slice_index_or xs j d ≡ y)
has_index [] y h = absurd h
has_index (x ∷ xs) y (inl e) = (0, omega arith, λ d. e)
has_index (x ∷ xs) y (inr h) = let r = has_index xs y h in let lt = r.1 in (suc r.0, omega (arith, lt), r.2)

pairs_head : {X : Type 0} (R : X → X → Type 0) (x : X) (xs : List X) → AllPairs R (x ∷ xs) → (y : X) → Has xs y → R x y
pairs_head R x xs up y h = let r = has_index xs y h in let lt = r.1 in subst (R x) (r.2 x) (up 0 (suc r.0) x (omega arith) (omega (arith, lt)))

pairs_tail : {X : Type 0} (R : X → X → Type 0) (x : X) (xs : List X) → AllPairs R (x ∷ xs) → AllPairs R xs
pairs_tail R x xs up = λ i j d lt le. up (suc i) (suc j) d (omega arith) (omega arith)

up_append : (xs ys : List Spot) → Up xs → Up ys → ((z w : Spot) → Has xs z → Has ys w → Before z w) → Up (xs ++ ys)
up_append [] ys u v b = v
up_append (x ∷ xs) ys u v b = (
  λ w h. elim (append_cases xs ys w h) [ inl a ↦ u.0 w a | inr c ↦ b x w (inl refl) c ],
  up_append xs ys u.1 v (λ z w h k. b z w (inr h) k),
)

abbrev Lower : Item → Item → Type 0
Lower x y = x.offset < y.offset

same_part : (p : PartLog) (x y : Item) → Lower x y → Before (spot p x) (spot p y)
same_part p x y lt = let e = tied_itself name_total (part_name p) in let l = nat_less x.offset y.offset lt in rw (e, l) refl

up_in : (p : PartLog) (xs : List Item) → Rises xs → Up (map (spot p) xs)
up_in p [] up = tt
up_in p (x ∷ xs) up = (
  λ w h. let r = map_has (spot p) xs w h in subst (λ v. Before (spot p x) v) r.2 (same_part p x r.0 (pairs_head Lower x xs up r.0 r.1)),
  up_in p xs (pairs_tail Lower x xs up),
)

abbrev Named : PartLog → PartLog → Type 0
Named p q = name_cmp (part_name p) (part_name q) ≡ Less

by_name : (p q : PartLog) (x y : Item) → Named p q → Before (spot p x) (spot q y)
by_name p q x y e = rw (e) refl

up_all : (ps : List PartLog) → AllPairs Named ps → ((p : PartLog) → Has ps p → Rises p.items) → Up (spots ps)
up_all [] n o = tt
up_all (p ∷ ps) n o = up_append (spots_in p) (spots ps) (up_in p p.items (o p (inl refl))) (up_all ps (pairs_tail Named p ps n) (λ q h. o q (inr h))) cross
  where
    cross : (z w : Spot) → Has (spots_in p) z → Has (spots ps) w → Before z w
    cross z w h k =
        let a = map_has (spot p) p.items z h in
        let b = flat_has spots_in ps w k in
        let c = map_has (spot b.0) b.0.items w b.2 in
        subst (λ (v : Spot). Before v w) a.2 (subst (λ (v : Spot). Before (spot p a.0) v) c.2 (by_name p b.0 a.0 c.0 (pairs_head Named p ps n b.0 b.1)))

pub in_order : (ps : List PartLog) → AreInOrder ps → Up (spots ps)
in_order ps are = up_all ps are.names are.offsets

-- ---- what a record shows

pub record IsCommit (apps : List App) (group : Group) (z : Spot) : Type 0 where
  pub seen : is_visible z.1.fate ≡ true
  pub offsets : is_offsets_part z.0 ≡ true
  pub under : IsUnderGroup apps group z.1

abbrev pub ShowsAs : List App → List Spot → Spot → VisibleFaultKind → Type 0
ShowsAs apps all z BadLineage = (is_visible z.1.fate ≡ true) × (is_output_part apps z.0 ≡ true) × (claim_of z.1.headers ≡ None)
ShowsAs apps all z (BadOffset e) = (is_visible z.1.fate ≡ true) × (is_offsets_part z.0 ≡ true) × CannotRead apps z.1 e
ShowsAs apps all z SplitGroup = (group : Group) × IsCommit apps group z × (w : Spot) × Has all w × IsCommit apps group w × (w.0.number <ℤ z.0.number)
ShowsAs apps all z OffsetDeleted = (group : Group) × IsCommit apps group z × (value_of z.1 ≡ None)

abbrev pub fault_of : Spot → VisibleFaultKind → VisibleFault
fault_of z k = record { partition = part_name z.0; offset = z.1.offset; kind = k }

inside : (ps : List PartLog) (z : Spot) → Has (spots ps) z → Has ps z.0 × Has z.0.items z.1
inside ps z h =
    let a = flat_has spots_in ps z h in
    let b = map_has (spot a.0) a.0.items z a.2 in
    subst (λ (w : Spot). Has ps w.0 × Has w.0.items w.1) b.2 (a.1, b.1)

outside : (ps : List PartLog) (p : PartLog) (x : Item) → Has ps p → Has p.items x → Has (spots ps) (spot p x)
outside ps p x h k = has_flat spots_in ps p (spot p x) h (has_map (spot p) p.items x k)

abbrev seen_item : Item → Bool
seen_item x = is_visible x.fate

abbrev visible_at : (ps : List PartLog) (t : PartLog → Bool) (z : Spot) → Has (spots ps) z → t z.0 ≡ true → is_visible z.1.fate ≡ true → VisibleIn (filter t ps)
visible_at ps t z h e v = record {
  part = z.0;
  item = z.1;
  has_part = has_filter t ps z.0 (inside ps z h).0 e;
  has_item = has_filter seen_item z.0.items z.1 (inside ps z h).1 v;
}

pub to_stands : (apps : List App) (ps : List PartLog) (z : Spot) (k : VisibleFaultKind) → Has (spots ps) z → ShowsAs apps (spots ps) z k → Stands apps ps (fault_of z k)
to_stands apps ps z BadLineage h s = (record { found = visible_at ps (is_output_part apps) z h s.1 s.0; partition = refl; offset = refl }, s.2)
to_stands apps ps z (BadOffset e) h s = (record { found = visible_at ps is_offsets_part z h s.1 s.0; partition = refl; offset = refl }, s.2)
to_stands apps ps z SplitGroup h s = (
  record { found = visible_at ps is_offsets_part z h s.1.offsets s.1.seen; partition = refl; offset = refl },
  record { group = s.0; here = s.1.under; other = visible_at ps is_offsets_part s.2 s.3 s.4.offsets s.4.seen; there = s.4.under; lesser = s.5 },
)
to_stands apps ps z OffsetDeleted h s = (record { found = visible_at ps is_offsets_part z h s.1.offsets s.1.seen; partition = refl; offset = refl }, s.0, s.1.under, s.2)

-- a visible record is in the list
record IsSpot (ps : List PartLog) (t : PartLog → Bool) (p : PartLog) (x : Item) : Type 0 where
  has : Has (spots ps) (spot p x)
  test : t p ≡ true
  seen : is_visible x.fate ≡ true

spot_of : (ps : List PartLog) (t : PartLog → Bool) (r : VisibleIn (filter t ps)) → IsSpot ps t r.part r.item
spot_of ps t r =
    let p = filter_has t ps r.part r.has_part in
    let x = filter_has seen_item r.part.items r.item r.has_item in
    record { has = outside ps r.part r.item p.0 x.0; test = p.1; seen = x.1 }

commit_at : (apps : List App) (ps : List PartLog) (group : Group) (r : VisibleIn (offsets_parts ps)) → IsUnderGroup apps group r.item → IsCommit apps group (spot r.part r.item)
commit_at apps ps group r u = let s = spot_of ps is_offsets_part r in record { seen = s.seen; offsets = s.test; under = u }

pub record Shown (apps : List App) (ps : List PartLog) (f : VisibleFault) (k : VisibleFaultKind) : Type 0 where
  pub at : Spot
  pub has : Has (spots ps) at
  pub shows : ShowsAs apps (spots ps) at k
  pub is : fault_of at k ≡ record { partition = f.partition; offset = f.offset; kind = k }

fault_is : (ps : List PartLog) (f : VisibleFault) (k : VisibleFaultKind) (at : AtRecord ps f) → fault_of (spot at.found.part at.found.item) k ≡ record { partition = f.partition; offset = f.offset; kind = k }
fault_is ps f k at = λ i. record { partition = at.partition i; offset = at.offset i; kind = k }

pub from_stands : (apps : List App) (ps : List PartLog) (f : VisibleFault) (k : VisibleFaultKind) → StandsAs apps ps f k → Shown apps ps f k
from_stands apps ps f BadLineage s =
    let r = spot_of ps (is_output_part apps) s.0.found in
    record { at = spot s.0.found.part s.0.found.item; has = r.has; shows = (r.seen, r.test, s.1); is = fault_is (output_parts apps ps) f BadLineage s.0 }
from_stands apps ps f (BadOffset e) s =
    let r = spot_of ps is_offsets_part s.0.found in
    record { at = spot s.0.found.part s.0.found.item; has = r.has; shows = (r.seen, r.test, s.1); is = fault_is (offsets_parts ps) f (BadOffset e) s.0 }
from_stands apps ps f SplitGroup s =
    let r = spot_of ps is_offsets_part s.0.found in
    let o = spot_of ps is_offsets_part s.1.other in
    record {
      at = spot s.0.found.part s.0.found.item;
      has = r.has;
      shows = (s.1.group, commit_at apps ps s.1.group s.0.found s.1.here, spot s.1.other.part s.1.other.item, o.has, commit_at apps ps s.1.group s.1.other s.1.there, s.1.lesser);
      is = fault_is (offsets_parts ps) f SplitGroup s.0;
    }
from_stands apps ps f OffsetDeleted s =
    let r = spot_of ps is_offsets_part s.0.found in
    record { at = spot s.0.found.part s.0.found.item; has = r.has; shows = (s.1, commit_at apps ps s.1 s.0.found s.2, s.3); is = fault_is (offsets_parts ps) f OffsetDeleted s.0 }
