-- Segments that are added one after the other, partition by partition, are those of their partitions.
use Rattle.std.proofs.Common.{◌≡◌, ℕ, ℤ, ◌<ℤ◌, List, [], ◌∷◌, ◌++◌, map, refl, sym, ap, ◌∙◌, subst, ◌&&◌, true, false, Bool, int_lt, arith, append_assoc, append-nil}
use Rattle.std.proofs.lemmas.Cmp.{int_ranked, tied_itself}
use Rattle.std.proofs.lemmas.Int.{ints}
use Rattle.std.proofs.lemmas.Map.Text.{is_eq-slice_cmp}
use Rattle.std.specs.Cmp.{tied_then}
use Rattle.std.specs.Cmp.Lexicographic.{slice_cmp}
use Rattle.std.specs.List.{AllByRecursion}
use Rattle.std.specs.List.Sorted.{IsStrictlySortedBy}
use Rattle.std.specs.Ordering.{nat_cmp, int_cmp, int_eq, is_eq, ordering_reverse}
use Rattle.std.specs.declared.cmp.Ordering.TheVariants.{Less}
use Rattle.eos_disk.specs.Entries.{Entry}
use Rattle.eos_evidence.specs.declared.ends.End.{End}
use Rattle.eos_evidence.specs.declared.partition.Partition.{Partition}
use Rattle.eos_evidence.specs.declared.segment.Segment.{Segment}
use Rattle.eos_evidence.specs.Ends.{end_cmp}
use Rattle.eos_evidence.specs.Evidence.{is_in, insert_segment, with_segment, empty_partition}
use Rattle.eos_evidence.proofs.EndsInOrder.{end_total}
use Rattle.eos_disk.specs.declared.names.FileName.{FileName}
use Rattle.eos_disk.specs.declared.names.Form.{Form}
use Rattle.eos_disk.specs.Shapes.{AreListed, segment_of, by_base}
use Rattle.eos_disk.specs.steps.Listing.{AreNamed, grown, partitions_with}

grown_more : (p : Partition) (xs : List Segment) (s : Segment) → grown p (xs ++ s ∷ []) ≡ with_segment s (grown p xs)
grown_more p [] s = refl
grown_more p (x ∷ xs) s = grown_more (with_segment x p) xs s

-- one segment more
pub partitions_more : (xs : List Segment) (s : Segment) (ends : List End) → partitions_with (xs ++ s ∷ []) ends ≡ map (with_segment s) (partitions_with xs ends)
partitions_more xs s [] = refl
partitions_more xs s (e ∷ es) = let one = grown_more (empty_partition e) xs s in let others = partitions_more xs s es in λ i. one i ∷ others i

grown_append : (p : Partition) (xs ys : List Segment) → grown p (xs ++ ys) ≡ grown (grown p xs) ys
grown_append p [] ys = refl
grown_append p (x ∷ xs) ys = grown_append (with_segment x p) xs ys

-- ---- segments of other partitions

abbrev pub AreOthers : End → List Segment → Type 0
AreOthers e = AllByRecursion (λ s. is_in s e ≡ false)

skipped : (s : Segment) (p : Partition) → is_in s p.end ≡ false → with_segment s p ≡ p
skipped s p other = rw other refl

pub grown_skips : (p : Partition) (ss : List Segment) → AreOthers p.end ss → grown p ss ≡ p
grown_skips p [] others = refl
grown_skips p (s ∷ ss) others = ap (λ (q : Partition). grown q ss) (skipped s p others.0) ∙ grown_skips p ss others.1

pub others_append : (e : End) (xs ys : List Segment) → AreOthers e xs → AreOthers e ys → AreOthers e (xs ++ ys)
others_append e [] ys h k = k
others_append e (x ∷ xs) ys h k = (h.0, others_append e xs ys h.1 k)

same_end : (e f : End) (file : FileName) → is_in (segment_of e file) f ≡ is_eq (end_cmp e f)
same_end e f file = ap (λ (b : Bool). b && int_eq e.partition f.partition) (sym (is_eq-slice_cmp e.topic f.topic)) ∙ tied_then (slice_cmp nat_cmp e.topic f.topic) (int_cmp e.partition f.partition)

before_others : (e f : End) (files : List FileName) → end_cmp e f ≡ Less → AreOthers f (map (segment_of e) files)
before_others e f [] less = tt
before_others e f (x ∷ xs) less = (same_end e f x ∙ ap is_eq less, before_others e f xs less)

pub after_others : (e f : End) (files : List FileName) → end_cmp e f ≡ Less → AreOthers e (map (segment_of f) files)
after_others e f [] less = tt
after_others e f (x ∷ xs) less = (same_end f e x ∙ ap is_eq (end_total.antisymm f e ∙ ap ordering_reverse less), after_others e f xs less)

pub later_others : (holds : List ℕ → Entry) (folder : List ℕ) (e : End) (es : List End) (names : List Segment) (forms : List Form)
    → AllByRecursion (λ f. end_cmp e f ≡ Less) es → AreNamed holds folder es names forms → AreOthers e names
later_others holds folder e [] names forms above are = subst (AreOthers e) (sym are.0) tt
later_others holds folder e (f ∷ es) names forms above are =
    subst (AreOthers e) (sym are.4)
    (others_append e (map (segment_of f) are.0) are.1 (after_others e f are.0 above.0) (later_others holds folder e es are.1 are.2 above.1 are.6))

-- ---- segments of the partition itself

own : (e : End) (file : FileName) → is_in (segment_of e file) e ≡ true
own e file = same_end e e file ∙ ap is_eq (tied_itself end_total e)

not_above : (a b : ℤ) → int_cmp a b ≡ Less → int_lt b a ≡ false
not_above a b e =
    let less : a <ℤ b = int_ranked a b Less (sym e) in
    grind (arith, ints, less)

insert_last : (s : Segment) (xs : List Segment) → AllByRecursion (λ x. int_lt s.base x.base ≡ false) xs → insert_segment s xs ≡ xs ++ s ∷ []
unfolding insert_segment
insert_last s [] below = refl
insert_last s (x ∷ xs) below = rw below.0 (ap (λ (l : List Segment). x ∷ l) (insert_last s xs below.1))

middle : (P : FileName → Type 0) (xs : List FileName) (f : FileName) (ys : List FileName) → AllByRecursion P (xs ++ f ∷ ys) → P f
middle P [] f ys all = all.0
middle P (x ∷ xs) f ys all = middle P xs f ys all.1

below_last : (e : End) (done : List FileName) (f : FileName) (fs : List FileName) → IsStrictlySortedBy by_base (done ++ f ∷ fs)
    → AllByRecursion (λ s. int_lt f.base s.base ≡ false) (map (segment_of e) done)
unfolding IsStrictlySortedBy
below_last e [] f fs up = tt
below_last e (g ∷ gs) f fs up = (not_above g.base f.base (middle (λ y. by_base g y ≡ Less) gs f fs up.0), below_last e gs f fs up.1)

map_last : (e : End) (done : List FileName) (f : FileName) → map (segment_of e) done ++ segment_of e f ∷ [] ≡ map (segment_of e) (done ++ f ∷ [])
map_last e [] f = refl
map_last e (g ∷ gs) f = ap (λ (l : List Segment). segment_of e g ∷ l) (map_last e gs f)

abbrev pub partition_of : End → List FileName → Partition
partition_of e files = record { end = e; segments = map (segment_of e) files }

with_last : (e : End) (done : List FileName) (f : FileName) (fs : List FileName) → IsStrictlySortedBy by_base (done ++ f ∷ fs)
    → with_segment (segment_of e f) (partition_of e done) ≡ partition_of e (done ++ f ∷ [])
with_last e done f fs up =
    rw (own e f)
    (ap (λ (l : List Segment). record { end = e; segments = l }) (insert_last (segment_of e f) (map (segment_of e) done) (below_last e done f fs up) ∙ map_last e done f))

placed : (e : End) (done files : List FileName) → IsStrictlySortedBy by_base (done ++ files)
    → grown (partition_of e done) (map (segment_of e) files) ≡ partition_of e (done ++ files)
placed e done [] up = ap (partition_of e) (sym (append-nil done))
placed e done (f ∷ fs) up =
    let joined = append_assoc done (f ∷ []) fs in
    ap (λ (p : Partition). grown p (map (segment_of e) fs)) (with_last e done f fs up)
    ∙ (placed e (done ++ f ∷ []) fs (subst (IsStrictlySortedBy by_base) (sym joined) up) ∙ ap (partition_of e) joined)

-- ---- all partitions

-- none of these segments is of one of these ends
abbrev pub AreOfNone : List Segment → List End → Type 0
AreOfNone names = AllByRecursion (λ e. AreOthers e names)

pub none_more : (e : End) (es : List End) (before : List Segment) (files : List FileName) → AllByRecursion (λ f. end_cmp e f ≡ Less) es → AreOfNone before es
    → AreOfNone (before ++ map (segment_of e) files) es
none_more e [] before files above none = tt
none_more e (f ∷ es) before files above none =
    (others_append f before (map (segment_of e) files) none.0 (before_others e f files above.0), none_more e es before files above.1 none.1)

pub none_at_first : (es : List End) → AreOfNone [] es
none_at_first [] = tt
none_at_first (e ∷ es) = (tt, none_at_first es)

pub head_is : (e : End) (before : List Segment) (files : List FileName) (later : List Segment) → AreOthers e before → IsStrictlySortedBy by_base files → AreOthers e later
    → grown (empty_partition e) (before ++ (map (segment_of e) files ++ later)) ≡ partition_of e files
head_is e before files later b up l =
    let own_ones = map (segment_of e) files in
    grown_append (empty_partition e) before (own_ones ++ later)
    ∙ (ap (λ (p : Partition). grown p (own_ones ++ later)) (grown_skips (empty_partition e) before b)
    ∙ (grown_append (empty_partition e) own_ones later
    ∙ (ap (λ (p : Partition). grown p later) (placed e [] files up) ∙ grown_skips (partition_of e files) later l)))

listed_after : (holds : List ℕ → Entry) (folder : List ℕ) (before : List Segment) (ends : List End) (names : List Segment) (forms : List Form)
    → IsStrictlySortedBy end_cmp ends → AreNamed holds folder ends names forms → AreOfNone before ends → AreListed holds folder (partitions_with (before ++ names) ends) forms
unfolding IsStrictlySortedBy
listed_after holds folder before [] names forms up are none = are.1
listed_after holds folder before (e ∷ es) names forms up are none =
    let files = are.0 in
    let own_ones = map (segment_of e) files in
    let others = later_others holds folder e es are.1 are.2 up.0 are.6 in
    let whole : before ++ names ≡ before ++ (own_ones ++ are.1) = ap (λ (xs : List Segment). before ++ xs) are.4 in
    let head : grown (empty_partition e) (before ++ names) ≡ partition_of e files =
    ap (grown (empty_partition e)) whole ∙ head_is e before files are.1 none.0 are.3.all.rises others in
    let joined : (before ++ own_ones) ++ are.1 ≡ before ++ names = append_assoc before own_ones are.1 ∙ sym whole in
    let tail = subst (λ (xs : List Segment). AreListed holds folder (partitions_with xs es) are.2) joined
    (listed_after holds folder (before ++ own_ones) es are.1 are.2 up.1 are.6 (none_more e es before files up.0 none.1)) in
    subst (λ (p : Partition). AreListed holds folder (p ∷ partitions_with (before ++ names) es) forms) (sym head) (files, are.2, are.3, refl, are.5, tail)

pub listed_by : (holds : List ℕ → Entry) (folder : List ℕ) (ends : List End) (names : List Segment) (forms : List Form)
    → IsStrictlySortedBy end_cmp ends → AreNamed holds folder ends names forms → AreListed holds folder (partitions_with names ends) forms
listed_by holds folder ends names forms up are = listed_after holds folder [] ends names forms up are (none_at_first ends)
