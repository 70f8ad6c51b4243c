-- The end of a partition, and its segments, by the folds of these.
use Rattle.std.proofs.Common.{◌≡◌, ◌≢◌, ℕ, zero, suc, ◌+◌, ◌-◌, ◌<◌, List, [], ◌∷◌, length, take, drop, cond, nat_le, unsigned_abs, refl, sym, ap, subst, ◌∙◌, inl, inr, Some, Option}
use Rattle.std.proofs.lemmas.List.Sums.{sum_by-cons}
use Rattle.eos_base.specs.declared.partition_name.PartitionName.{PartitionName}
use Rattle.eos_base.specs.Members.{Has}
use Rattle.eos_evidence.specs.declared.partition.Partition.{Partition}
use Rattle.eos_evidence.specs.declared.segment.Segment.{Segment}
use Rattle.eos_fold.specs.Fronts.{base_of}
use Rattle.eos_fold_file.specs.declared.file.FoldFile.{FoldFile}
use Rattle.eos_fold_file.specs.Folds.{IsFoldOf}
use Rattle.eos_sought.specs.declared.folded.Folded.{Folded}
use Rattle.eos_sought.specs.declared.wanted.Wanted.TheVariants.{Holding}
use Rattle.eos_sought.specs.Folded.{AreFoldsOf, IsNamedBy}
use Rattle.eos_sought.specs.Partitions.{partition_named}
use Rattle.eos_story.specs.Answers.{StandInOrder, IsFirstShown, IsSegmentRow, AreSegmentsAround, AreSegmentsShown, count_begun, segments_around}
use Rattle.eos_story.specs.declared.row.Row.{Row}
use Rattle.eos_story.specs.declared.row.Row.TheVariants as rows
use Rattle.eos_story.specs.declared.scene.Scene.{Scene}
use Rattle.eos_story.specs.Questions.{Ends}
use Rattle.eos_story.specs.Rows.{IsSegmentOf, AreSegmentsOf}
use Rattle.eos_story.specs.steps.Ends.{begin_of, folds_begun, folds_around, IsFoldRow, AreFoldsAround}
use Rattle.eos_story.specs.steps.Seen.{OfAllSeen, AreTrue}
use Rattle.eos_story.specs.steps.Telling.{Tells, TellsEach, IsNext}
use Rattle.eos_story.proofs.RowsGrown.{has_grown, first_grown, in_order_grown}
use Rattle.eos_story.proofs.RowsTold.{told_both, told_as, told_each, told_next, next_has}

-- ---- folds, and the segments that they are of

same_number : (ss : List Segment) (fs : List FoldFile) → AreFoldsOf ss fs → length ss ≡ length fs
same_number [] [] are = refl
same_number [] (f ∷ fs) are = absurd are
same_number (s ∷ ss) [] are = absurd are
same_number (s ∷ ss) (f ∷ fs) are = ap suc (same_number ss fs are.1)

same_base : (s : Segment) (f : FoldFile) → IsFoldOf s f → begin_of f ≡ base_of s
same_base s f is = ap unsigned_abs is.base

same_begun : (offset : ℕ) (ss : List Segment) (fs : List FoldFile) → AreFoldsOf ss fs → count_begun offset ss ≡ folds_begun offset fs
same_begun offset [] [] are = refl
same_begun offset [] (f ∷ fs) are = absurd are
same_begun offset (s ∷ ss) [] are = absurd are
same_begun offset (s ∷ ss) (f ∷ fs) are =
    let p : Segment → ℕ = λ x. cond (nat_le (base_of x) offset) 1 0 in
    let q : FoldFile → ℕ = λ x. cond (nat_le (begin_of x) offset) 1 0 in
    sum_by-cons p s ss ∙ (ap (λ n. cond (nat_le n offset) 1 0 + count_begun offset ss) (sym (same_base s f are.0)) ∙ (ap (λ n. q f + n) (same_begun offset ss fs are.1) ∙ sym (sum_by-cons q f fs)))

of_taken : (n : ℕ) (ss : List Segment) (fs : List FoldFile) → AreFoldsOf ss fs → AreFoldsOf (take n ss) (take n fs)
of_taken zero ss fs are = tt
of_taken (suc n) [] [] are = tt
of_taken (suc n) [] (f ∷ fs) are = absurd are
of_taken (suc n) (s ∷ ss) [] are = absurd are
of_taken (suc n) (s ∷ ss) (f ∷ fs) are = (are.0, of_taken n ss fs are.1)

of_dropped : (n : ℕ) (ss : List Segment) (fs : List FoldFile) → AreFoldsOf ss fs → AreFoldsOf (drop n ss) (drop n fs)
of_dropped zero ss fs are = are
of_dropped (suc n) [] [] are = tt
of_dropped (suc n) [] (f ∷ fs) are = absurd are
of_dropped (suc n) (s ∷ ss) [] are = absurd are
of_dropped (suc n) (s ∷ ss) (f ∷ fs) are = of_dropped n ss fs are.1

of_around : (offset : ℕ) (ss : List Segment) (fs : List FoldFile) → AreFoldsOf ss fs → AreFoldsOf (segments_around offset ss) (folds_around offset fs)
of_around offset ss fs are =
    let n = folds_begun offset fs in
    subst (λ m. AreFoldsOf (drop (m - 2) (take (m + 1) ss)) (folds_around offset fs)) (sym (same_begun offset ss fs are)) (of_dropped (n - 2) (take (n + 1) ss) (take (n + 1) fs) (of_taken (n + 1) ss fs are))

of_order : (name : PartitionName) (ss : List Segment) (fs : List FoldFile) (told : List Row) → AreFoldsOf ss fs → StandInOrder (IsFoldRow name) fs told → StandInOrder (IsSegmentRow name) ss told
of_order name [] [] told are h = tt
of_order name [] (f ∷ fs) told are h = absurd are
of_order name (s ∷ ss) [] told are h = absurd are
of_order name (s ∷ ss) (f ∷ fs) told are h =
    let base : rows.Segment name (begin_of f) f.bytes ≡ rows.Segment name (base_of s) f.bytes = ap (λ n. rows.Segment name n f.bytes) (same_base s f are.0) in
    let size : rows.Segment name (base_of s) f.bytes ≡ rows.Segment name (base_of s) (length s.bytes) = ap (rows.Segment name (base_of s)) are.0.bytes in
    (h.0, h.1, h.2, h.3, h.4 ∙ (base ∙ size), of_order name ss fs h.2 are.1 h.5)

segments_around_told : (name : PartitionName) (offset : ℕ) (ss : List Segment) (fs : List FoldFile) (told : List Row) → AreFoldsOf ss fs → AreFoldsAround name offset fs told → AreSegmentsAround name offset ss told
segments_around_told name offset ss fs told are h =
    let shown = same_number (segments_around offset ss) (folds_around offset fs) (of_around offset ss fs are) in
    let all = same_number ss fs are in
    record {
      in_order = of_order name (segments_around offset ss) (folds_around offset fs) told (of_around offset ss fs are) h.in_order;
      more = λ lt. rw (shown, all) (h.more (rw (sym shown, sym all) lt));
    }

record HasSegment (ss : List Segment) (f : FoldFile) : Type 0 where
  segment : Segment
  has : Has ss segment
  fold : IsFoldOf segment f

segment_in : (ss : List Segment) (fs : List FoldFile) (f : FoldFile) → AreFoldsOf ss fs → Has fs f → HasSegment ss f
segment_in [] [] f are h = absurd h
segment_in [] (g ∷ fs) f are h = absurd are
segment_in (s ∷ ss) [] f are h = absurd are
segment_in (s ∷ ss) (g ∷ fs) f are (inl e) = record { segment = s; has = inl refl; fold = subst (IsFoldOf s) e are.0 }
segment_in (s ∷ ss) (g ∷ fs) f are (inr h) =
    let other = segment_in ss fs f are.1 h in
    record { segment = other.segment; has = inr other.has; fold = other.fold }

-- ---- rows that say what is so

pub segment_of : (ps : List Partition) (name shown : PartitionName) (p : Folded) (f : FoldFile) (base : ℕ) → IsNamedBy ps name p → shown ≡ name → Has p.folds.items f → base ≡ begin_of f → IsSegmentOf ps shown base f.bytes
segment_of ps name shown p f base by is has e =
    let of = segment_in by.partition.segments p.folds.items f by.folded.folds has in
    record {
      partition = by.partition;
      named = subst (λ (n : PartitionName). partition_named n ps ≡ Some by.partition) (sym is) by.named;
      segment = of.segment;
      has = of.has;
      of_base = e ∙ same_base of.segment f of.fold;
      of_size = of.fold.bytes;
    }

pub segments_of : (ps : List Partition) (name kept : PartitionName) (p : Folded) (all : ℕ) → IsNamedBy ps name p → kept ≡ name → all ≡ length p.folds.items → AreSegmentsOf ps kept all
segments_of ps name kept p all by same e = record {
  partition = by.partition;
  named = subst (λ (n : PartitionName). partition_named n ps ≡ Some by.partition) (sym same) by.named;
  number = e ∙ sym (same_number by.partition.segments p.folds.items by.folded.folds);
}

-- ---- what they tell

pub more_segments : {scene : Scene} {a b : List Row} {all : ℕ} (name kept : PartitionName) (p : Folded) (shown : ℕ) → (AreTrue scene a → AreTrue scene b) → IsNext a (rows.MoreSegments kept shown all) b → kept ≡ name → all ≡ length p.folds.items
    → Tells scene a b (λ told. shown < length p.folds.items → Has told (rows.MoreSegments name shown (length p.folds.items)))
more_segments {scene} {a} {b} {all} name kept p shown are is same e =
    let folds = p.folds.items in
    let here : Has b (rows.MoreSegments name shown (length folds)) =
    subst (λ (n : PartitionName). Has b (rows.MoreSegments n shown (length folds))) same (subst (λ m. Has b (rows.MoreSegments kept shown m)) e (next_has a b (rows.MoreSegments kept shown all) is)) in
    told_next (rows.MoreSegments kept shown all) (λ told. shown < length folds → Has told (rows.MoreSegments name shown (length folds))) are is (λ lt. here)

pub around_told : {scene : Scene} {a b c : List Row} (name : PartitionName) (offset : ℕ) (folds shown : List FoldFile) → Tells scene a b (StandInOrder (IsFoldRow name) shown) → shown ≡ folds_around offset folds
    → Tells scene b c (λ told. length shown < length folds → Has told (rows.MoreSegments name (length shown) (length folds))) → Tells scene a c (AreFoldsAround name offset folds)
around_told {scene} {a} {b} {c} name offset folds shown h e k =
    let R = IsFoldRow name in
    told_as (AreFoldsAround name offset folds) (λ t. record {
      in_order = subst (λ (fs : List FoldFile). StandInOrder R fs c) e t.0;
      more = subst (λ (fs : List FoldFile). length fs < length folds → Has c (rows.MoreSegments name (length fs) (length folds))) e t.1;
    }) (told_both (λ told added is. in_order_grown R shown told added is) h k)

shown_of : (ps : List Partition) (name : PartitionName) (offset : ℕ) (p : Folded) (told : List Row) → IsNamedBy ps name p → Has told (rows.End name p.end.end) → AreFoldsAround name offset p.folds.items told → AreSegmentsShown name offset (partition_named name ps) told
shown_of ps name offset p told by end around =
    let declared : Has told (rows.End name by.partition.end.end) = subst (λ e. Has told (rows.End name e)) (ap (λ e. e.end) by.folded.end) end in
    subst (λ (q : Option Partition). AreSegmentsShown name offset q told) (sym by.named) (declared, segments_around_told name offset by.partition.segments p.folds.items told by.folded.folds around)

pub segments_told : {scene : Scene} {a b c : List Row} (name : PartitionName) (offset : ℕ) (p : Folded) → OfAllSeen scene (λ ps. IsNamedBy ps name p) → Tells scene a b (λ told. Has told (rows.End name p.end.end))
    → Tells scene b c (AreFoldsAround name offset p.folds.items) → Tells scene a c (λ told. OfAllSeen scene (λ ps. AreSegmentsShown name offset (partition_named name ps) told))
segments_told {scene} {a} {b} {c} name offset p by h k =
    told_as (λ told. OfAllSeen scene (λ ps. AreSegmentsShown name offset (partition_named name ps) told)) (λ t ps seen. shown_of ps name offset p c (by ps seen) t.0 t.1) (told_both (λ told added is. has_grown told added _ is) h k)

pub ends_told : {scene : Scene} {a b c : List Row} (name : PartitionName) (offset : ℕ) → Tells scene a b (λ told. offset ≢ 0 → IsFirstShown name (Holding (offset - 1)) told)
    → Tells scene b c (λ told. OfAllSeen scene (λ ps. AreSegmentsShown name offset (partition_named name ps) told)) → TellsEach scene a c (Ends name offset ∷ [])
ends_told {scene} {a} {b} {c} name offset h k =
    told_each (Ends name offset ∷ []) (λ t ps seen. (record { last = t.0; segments = t.1 ps seen }, tt)) (told_both (λ told added is ne. first_grown name (Holding (offset - 1)) told added (is ne)) h k)
