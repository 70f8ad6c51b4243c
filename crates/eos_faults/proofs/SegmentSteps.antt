-- A walk along a segment by its fold, one batch further, and its end.
use Rattle.std.proofs.Common.{◌≡◌, ℕ, ◌+◌, ◌<◌, ◌≤◌, zero, suc, pos, List, [], ◌∷◌, ◌++◌, length, drop, get_or, refl, sym, ap, subst, ◌∙◌, arith, Bool, append_assoc}
use Rattle.std.specs.Prelude.{unsigned_abs}
use Rattle.std.proofs.lemmas.List.{append-nil, drop_all, drop_more}
use Rattle.eos_batch.specs.declared.batch.Batch.{Batch}
use Rattle.eos_batch.specs.declared.head.BatchHead.{BatchHead}
use Rattle.eos_batch.specs.Heads.{head_of}
use Rattle.eos_batch.specs.Offsets.{offset_of}
use Rattle.eos_batch.specs.Segment.{Splits}
use Rattle.eos_evidence.specs.declared.segment.Segment.{Segment}
use Rattle.eos_touch.specs.Front.{records_in, ContinuesFrom}
use Rattle.eos_touch.proofs.Beginnings.{splits-push}
use Rattle.eos_touch.proofs.Continuity.{records_in-append, continues-last, continues-cut}
use Rattle.eos_fold.specs.declared.stop.Stop.{Stop}
use Rattle.eos_fold.specs.Fronts.{base_of, StopsAt}
use Rattle.eos_fold_file.specs.declared.file.FoldFile.{FoldFile}
use Rattle.eos_fold_file.specs.declared.head.FoldHead.{FoldHead}
use Rattle.eos_fold_file.specs.Folds.{HasFoldHeads, IsFoldOf}
use Rattle.eos_fold_file.specs.Heads.{fold_head, batch_head}
use Rattle.eos_fold_file.proofs.RealHeads.{head_again}
use Rattle.eos_sought.specs.Folded.{AreFoldsOf}
use Rattle.eos_faults.specs.declared.walk.Walk.{Walk}
use Rattle.eos_faults.specs.steps.Walks.{HasPassed, HasPassedSegment}

-- ---- the folds

pub as_many : (segments : List Segment) (folds : List FoldFile) → AreFoldsOf segments folds → length segments ≡ length folds
as_many [] [] h = refl
as_many [] (f ∷ fs) h = absurd h
as_many (s ∷ ss) [] h = absurd h
as_many (s ∷ ss) (f ∷ fs) h = ap suc (as_many ss fs h.1)

-- of which segment one of them is
pub record IsSegmentAt (segments : List Segment) (i : ℕ) (f : FoldFile) : Type 0 where
  pub segment : Segment
  pub inside : i < length segments
  pub there : segment ≡ get_or segments i segment
  pub fold : IsFoldOf segment f

pub segment_at : (segments : List Segment) (folds : List FoldFile) (i : ℕ) (f : FoldFile) → AreFoldsOf segments folds → i < length folds → f ≡ get_or folds i f → IsSegmentAt segments i f
segment_at [] [] i f h lt is = absurd (omega (arith, lt))
segment_at [] (g ∷ gs) i f h lt is = absurd h
segment_at (s ∷ ss) [] i f h lt is = absurd h
segment_at (s ∷ ss) (g ∷ gs) zero f h lt is = record { segment = s; inside = omega arith; there = refl; fold = subst (IsFoldOf s) (sym is) h.0 }
segment_at (s ∷ ss) (g ∷ gs) (suc i) f h lt is =
    let r = segment_at ss gs i f h.1 (omega (arith, lt)) is in
    record { segment = r.segment; inside = omega (arith, r.inside); there = r.there; fold = r.fold }

-- ---- a segment

-- its batches of these heads are left, behind those that were passed
pub record IsPassing (sequenced : Bool) (front : List Batch) (segment : Segment) (stop : Stop) (heads : List FoldHead) (walk : Walk) : Type 0 where
  pub inside : List Batch
  pub has : HasPassed sequenced (front ++ inside) walk
  pub left : List Batch
  pub bytes : List ℕ
  pub texts : Splits segment.bytes inside bytes
  pub rest : List ℕ
  pub heads_are : HasFoldHeads bytes left heads rest
  pub continuous : ContinuesFrom (records_in front) (inside ++ left)
  pub stops : StopsAt (records_in front) (records_in front + records_in (inside ++ left)) segment.bytes rest stop

pub begins : (sequenced : Bool) (front : List Batch) (segment : Segment) (f : FoldFile) (walk : Walk) → HasPassed sequenced front walk → IsFoldOf segment f → base_of segment ≡ records_in front → IsPassing sequenced front segment f.stop f.heads walk
begins sequenced front segment f walk h is base = record {
  inside = [];
  has = subst (λ z. HasPassed sequenced z walk) (sym (append-nil front)) h;
  left = is.batches;
  bytes = segment.bytes;
  texts = refl;
  rest = is.rest;
  heads_are = is.heads;
  continuous = subst (λ (n : ℕ). ContinuesFrom n is.batches) base is.continuous;
  stops = subst (λ (n : ℕ). StopsAt n (n + records_in is.batches) segment.bytes is.rest f.stop) base is.stops;
}

one_more : (sequenced : Bool) (front : List Batch) (segment : Segment) (stop : Stop) (h : FoldHead) (hs : List FoldHead) (head : BatchHead) (old new : Walk) → IsPassing sequenced front segment stop (h ∷ hs) old → head ≡ batch_head old.next h
    → ((before : List Batch) (b : Batch) (size : ℕ) → head ≡ head_of b size → offset_of b ≡ records_in before → HasPassed sequenced before old → HasPassed sequenced (before ++ b ∷ []) new) → IsPassing sequenced front segment stop hs new
one_more sequenced front segment stop h hs head old new w at pass = go w.left w.bytes w.texts w.heads_are w.continuous w.stops
  where
    next : ℕ
    next = records_in front

    go : (left : List Batch) (bytes : List ℕ) → Splits segment.bytes w.inside bytes → HasFoldHeads bytes left (h ∷ hs) w.rest → ContinuesFrom next (w.inside ++ left) → StopsAt next (next + records_in (w.inside ++ left)) segment.bytes w.rest stop
        → IsPassing sequenced front segment stop hs new
    go [] bytes texts x on stops = absurd x
    go (b ∷ bs) bytes texts x on stops =
        let size = length x.0 in
        let base : b.base_offset ≡ pos (next + records_in w.inside) = continues-last next w.inside b (continues-cut next w.inside b bs on) in
        let offset : offset_of b ≡ records_in (front ++ w.inside) = ap unsigned_abs base ∙ sym (records_in-append front w.inside) in
        let there : offset_of b ≡ old.next = offset ∙ sym w.has.next in
        let is : head ≡ head_of b size = at ∙ (ap (batch_head old.next) x.4 ∙ (ap (λ (n : ℕ). batch_head n (fold_head (head_of b size))) (sym there) ∙ head_again b size)) in
        let parts : w.inside ++ b ∷ bs ≡ (w.inside ++ b ∷ []) ++ bs = sym (append_assoc w.inside (b ∷ []) bs) in
        record {
          inside = w.inside ++ b ∷ [];
          has = subst (λ z. HasPassed sequenced z new) (append_assoc front w.inside (b ∷ [])) (pass (front ++ w.inside) b size is offset w.has);
          left = bs;
          bytes = x.1;
          texts = splits-push segment.bytes w.inside bytes b x.0 x.1 texts x.2 x.3;
          rest = w.rest;
          heads_are = x.5;
          continuous = subst (ContinuesFrom next) parts on;
          stops = subst (λ (bs : List Batch). StopsAt next (next + records_in bs) segment.bytes w.rest stop) parts stops;
        }

ends : (sequenced : Bool) (front : List Batch) (segment : Segment) (stop : Stop) (walk : Walk) → IsPassing sequenced front segment stop [] walk → HasPassedSegment sequenced front segment.bytes walk stop
ends sequenced front segment stop walk w = go w.left w.bytes w.texts w.heads_are w.continuous w.stops
  where
    next : ℕ
    next = records_in front

    go : (left : List Batch) (bytes : List ℕ) → Splits segment.bytes w.inside bytes → HasFoldHeads bytes left [] w.rest → ContinuesFrom next (w.inside ++ left) → StopsAt next (next + records_in (w.inside ++ left)) segment.bytes w.rest stop
        → HasPassedSegment sequenced front segment.bytes walk stop
    go [] bytes texts x on stops = record {
      inside = w.inside;
      segment = record {
        rest = w.rest;
        texts = subst (Splits segment.bytes w.inside) x texts;
        continuous = subst (ContinuesFrom next) (append-nil w.inside) on;
        stops = subst (λ (bs : List Batch). StopsAt next (next + records_in bs) segment.bytes w.rest stop) (append-nil w.inside) stops;
      };
      passed = w.has;
    }
    go (b ∷ bs) bytes texts x on stops = absurd x

-- ---- in a list of its heads

pub next_one : (sequenced : Bool) (front : List Batch) (segment : Segment) (stop : Stop) (heads : List FoldHead) (i : ℕ) (d : FoldHead) (head : BatchHead) (old new : Walk) → i < length heads → IsPassing sequenced front segment stop (drop i heads) old
    → head ≡ batch_head old.next (get_or heads i d) → ((before : List Batch) (b : Batch) (size : ℕ) → head ≡ head_of b size → offset_of b ≡ records_in before → HasPassed sequenced before old → HasPassed sequenced (before ++ b ∷ []) new)
    → IsPassing sequenced front segment stop (drop (i + 1) heads) new
next_one sequenced front segment stop heads i d head old new lt w at pass =
    one_more sequenced front segment stop (get_or heads i d) (drop (i + 1) heads) head old new (subst (λ (hs : List FoldHead). IsPassing sequenced front segment stop hs old) (drop_more heads i d lt) w) at pass

pub none_left : (sequenced : Bool) (front : List Batch) (segment : Segment) (stop : Stop) (heads : List FoldHead) (i : ℕ) (walk : Walk) → length heads ≤ i → IsPassing sequenced front segment stop (drop i heads) walk
    → HasPassedSegment sequenced front segment.bytes walk stop
none_left sequenced front segment stop heads i walk le w = ends sequenced front segment stop walk (subst (λ (hs : List FoldHead). IsPassing sequenced front segment stop hs walk) (drop_all i heads le) w)
