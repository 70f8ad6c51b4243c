-- The walk over inputs below their committed offsets, and the keys of their claims.
use Rattle.std.proofs.Common.{◌≡◌, ◌+◌, ◌<◌, ◌≤◌, ℕ, ℤ, pos, zero, suc, List, [], ◌∷◌, ◌++◌, length, map, take, drop, get_or, Some, refl, sym, subst, ap, ◌∙◌, inl, inr, true, false, Bool, ◌&&◌, arith, if◌then◌else◌, cond}
use Rattle.std.specs.Prelude.{slice_get, slice_index_or, int_lt}
use Rattle.std.specs.List.{flat_map, filter}
use Rattle.std.proofs.lemmas.List.Elements.{filter-append}
use Rattle.std.proofs.lemmas.List.{append_assoc, map-append, length-append}
use Rattle.eos_base.specs.declared.partition_name.PartitionName.{PartitionName}
use Rattle.eos_base.specs.Members.{Has}
use Rattle.eos_base.proofs.Membership.{append_cases, flat_has, has_map, filter_has}
use Rattle.eos_fold.specs.declared.item.Item.{Item}
use Rattle.eos_fold.specs.Parts.{part_name, PartLog}
use Rattle.eos_claims.specs.declared.place.Place.{Place}
use Rattle.eos_claims.specs.Outputs.{Application, committed_offset}
use Rattle.eos_claims.specs.Candidates.{is_committed}
use Rattle.eos_commits.specs.Visible.{is_visible}
use Rattle.eos_commits.specs.Applications.{Topic, is_part_of, place_in, inputs_below}
use Rattle.eos_lineage.specs.declared.books.Books.{Books}
use Rattle.eos_lineage.specs.steps.Keys.{LeftView, spot, below_at, place_among, Told, AreBooks, HasTaken}
use Rattle.eos_lineage.specs.steps.Shares.{below_of, inputs_between}
use Rattle.eos_lineage.specs.steps.Walks.{input_at, inputs_at}
use Rattle.eos_lineage.proofs.NamePlaces.{place_at}
use Rattle.eos_commits.proofs.NameSearch.{get_map}
use Rattle.eos_lineage.proofs.PartsLineage.{partition_of}
use Rattle.eos_lineage.proofs.Stretches.{one_further, all_between}

pub taken_none : (ns : List PartitionName) (v : LeftView) → HasTaken ns v v []
taken_none ns v = record { told = λ rest t. t; count = omega arith; offsets = λ i h. absurd h }

pub taken_then : (ns : List PartitionName) (u v w : LeftView) (is js : List Place) → HasTaken ns u v is → HasTaken ns v w js → HasTaken ns u w (is ++ js)
taken_then ns u v w is js h k = record {
  told = λ rest t. subst (Told u.keys) (sym (append_assoc (map (spot ns) is) (map (spot ns) js) rest) ∙ ap (λ (ss : List ℕ). ss ++ rest) (sym (map-append (spot ns) is js)))
      (h.told (map (spot ns) js ++ rest) (k.told rest t));
  count = let p = h.count in let q = k.count in omega (arith, p, q, length-append is js);
  offsets = λ i m. elim (append_cases is js i m) [ inl x ↦ h.offsets i x | inr y ↦ k.offsets i y ];
}

-- ---- over the logs

one_item : (a : Application) (n : PartitionName) (x : Item) → below_at (committed_offset a.commits n) n x ≡ filter (is_committed a) (input_at n x)
one_item a n x = go (is_visible x.fate)
  where
    test : (c : Bool) → (if c then place_in n x ∷ [] else []) ≡ cond c (place_in n x ∷ []) []
    test true = refl
    test false = refl

    go : (b : Bool) → (if b && int_lt (pos x.offset) (committed_offset a.commits n) then place_in n x ∷ [] else []) ≡ filter (is_committed a) (if b then place_in n x ∷ [] else [])
    go true = test (int_lt (pos x.offset) (committed_offset a.commits n))
    go false = refl

in_items : (a : Application) (n : PartitionName) (xs : List Item) → flat_map (below_at (committed_offset a.commits n) n) xs ≡ filter (is_committed a) (flat_map (input_at n) xs)
in_items a n [] = refl
in_items a n (x ∷ xs) =
    let e = one_item a n x in
    let r = in_items a n xs in
    (λ j. e j ++ r j) ∙ sym (filter-append (is_committed a) (input_at n x) (flat_map (input_at n) xs))

in_part : (a : Application) (topics : List Topic) (p : PartLog) → below_of a topics p ≡ filter (is_committed a) (inputs_at topics p)
in_part a topics p = go (is_part_of topics p)
  where
    go : (b : Bool) → (if b then flat_map (below_at (committed_offset a.commits (part_name p)) (part_name p)) p.items else [])
        ≡ filter (is_committed a) (if b then flat_map (input_at (part_name p)) p.items else [])
    go true = in_items a (part_name p) p.items
    go false = refl

pub in_parts : (a : Application) (topics : List Topic) (ps : List PartLog) → flat_map (below_of a topics) ps ≡ filter (is_committed a) (flat_map (inputs_at topics) ps)
in_parts a topics [] = refl
in_parts a topics (p ∷ ps) =
    let e = in_part a topics p in
    let r = in_parts a topics ps in
    (λ j. e j ++ r j) ∙ sym (filter-append (is_committed a) (inputs_at topics p) (flat_map (inputs_at topics) ps))

-- the inputs of one more log
more_taken : (ns : List PartitionName) (a : Application) (topics : List Topic) (u v w : LeftView) (ps : List PartLog) (from i : ℕ) (p : PartLog) → from ≤ i → i < length ps → p ≡ get_or ps i p
    → HasTaken ns u v (flat_map (below_of a topics) (drop from (take i ps))) → HasTaken ns v w (below_of a topics p) → HasTaken ns u w (flat_map (below_of a topics) (drop from (take (i + 1) ps)))
more_taken ns a topics u v w ps from i p le lt is h k =
    subst (HasTaken ns u w) (sym (one_further (below_of a topics) ps from i p le lt is))
    (taken_then ns u v w (flat_map (below_of a topics) (drop from (take i ps))) (below_of a topics p) h k)

-- where a log stands among the names
pub log_at : (a : Application) (b : Books) → AreBooks a b → (i : ℕ) (p : PartLog) → i < length b.parts.now → p ≡ get_or b.parts.now i p → i ≡ place_among b.names.now (part_name p)
log_at a b are i p lt is =
    let at : slice_get b.names.now i ≡ Some (part_name p) = ap (λ (ns : List PartitionName). slice_get ns i) are.parts ∙ (get_map part_name b.parts.now i p lt ∙ ap (λ (q : PartLog). Some (part_name q)) (sym is)) in
    sym (place_at b.names.now i (part_name p) are.names at)

-- the committed offset of a log
offset_at : (a : Application) (b : Books) → AreBooks a b → (i : ℕ) (p : PartLog) (top : ℤ) → i < length b.parts.now → p ≡ get_or b.parts.now i p → top ≡ slice_index_or b.offsets.now i top
    → top ≡ committed_offset a.commits (part_name p)
offset_at a b are i p top lt is at =
    let f = λ (q : PartLog). committed_offset a.commits (part_name q) in
    let all : b.offsets.now ≡ map f b.parts.now = are.offsets ∙ (ap (map (committed_offset a.commits)) are.parts ∙ map_twice b.parts.now) in
    at ∙ (ap (λ (zs : List ℤ). slice_index_or zs i top) all ∙ (index_mapped f b.parts.now i top p lt ∙ ap f (sym is)))
  where
    map_twice : (ps : List PartLog) → map (committed_offset a.commits) (map part_name ps) ≡ map (λ (q : PartLog). committed_offset a.commits (part_name q)) ps
    map_twice [] = refl
    map_twice (q ∷ ps) = ap (λ (zs : List ℤ). committed_offset a.commits (part_name q) ∷ zs) (map_twice ps)

    index_mapped : (f : PartLog → ℤ) (ps : List PartLog) (k : ℕ) (d : ℤ) (e : PartLog) → k < length ps → slice_index_or (map f ps) k d ≡ f (slice_index_or ps k e)
    index_mapped f [] k d e lt = absurd (omega (arith, lt))
    index_mapped f (q ∷ ps) zero d e lt = refl
    index_mapped f (q ∷ ps) (suc k) d e lt = index_mapped f ps k d e (omega (arith, lt))

-- the inputs of one more log, of a source topic or another one
pub source_taken : (a : Application) (b : Books) → AreBooks a b → (u v w : LeftView) (from i : ℕ) (p : PartLog) (top : ℤ) → from ≤ i → i < length b.parts.now → p ≡ get_or b.parts.now i p
    → is_part_of b.sources.now p ≡ true → top ≡ slice_index_or b.offsets.now i top → HasTaken b.names.now v w (flat_map (below_at top (part_name p)) p.items)
    → HasTaken b.names.now u v (inputs_between a b from i) → HasTaken b.names.now u w (inputs_between a b from (i + 1))
source_taken a b are u v w from i p top le lt is source at here before = more_taken b.names.now a b.sources.now u v w b.parts.now from i p le lt is before
    (subst (HasTaken b.names.now v w) (ap (λ t. flat_map (below_at t (part_name p)) p.items) (offset_at a b are i p top lt is at) ∙ sym (chosen (is_part_of b.sources.now p) source)) here)
  where
    chosen : (t : Bool) → t ≡ true → (if t then flat_map (below_at (committed_offset a.commits (part_name p)) (part_name p)) p.items else []) ≡ flat_map (below_at (committed_offset a.commits (part_name p)) (part_name p)) p.items
    chosen true e = refl
    chosen false e = absurd cc

pub other_passed : (a : Application) (b : Books) (u v : LeftView) (from i : ℕ) (p : PartLog) → from ≤ i → i < length b.parts.now → p ≡ get_or b.parts.now i p
    → is_part_of b.sources.now p ≡ false → HasTaken b.names.now u v (inputs_between a b from i) → HasTaken b.names.now u v (inputs_between a b from (i + 1))
other_passed a b u v from i p le lt is other before = more_taken b.names.now a b.sources.now u v v b.parts.now from i p le lt is before
    (subst (HasTaken b.names.now v v) (sym (chosen (is_part_of b.sources.now p) other)) (taken_none b.names.now v))
  where
    chosen : (t : Bool) → t ≡ false → (if t then flat_map (below_at (committed_offset a.commits (part_name p)) (part_name p)) p.items else []) ≡ []
    chosen false e = refl
    chosen true e = absurd cc

pub all_inputs : (a : Application) (b : Books) → AreBooks a b → inputs_between a b 0 (length b.parts.now) ≡ inputs_below a
all_inputs a b are = ap (flat_map (below_of a b.sources.now)) (all_between b.parts.now) ∙ (in_parts a b.sources.now b.parts.now ∙ ap (filter (is_committed a)) are.inputs)

pub input_named : (a : Application) (b : Books) → AreBooks a b → (i : Place) → Has (inputs_below a) i → Has b.names.now i.partition
input_named a b are i h =
    let m = (filter_has (is_committed a) a.inputs i h).0 in
    let r = flat_has (inputs_at b.sources.now) b.parts.now i (subst (λ (is : List Place). Has is i) (sym are.inputs) m) in
    let n = partition_of b.sources.now r.0 i r.2 in
    subst (λ (ns : List PartitionName). Has ns i.partition) (sym are.parts) (subst (Has (map part_name b.parts.now)) (sym n) (has_map part_name b.parts.now r.0 r.1))
