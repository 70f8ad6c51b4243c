-- A walk along the segments of a partition, one after the other.
use Rattle.std.proofs.Common.{◌≡◌, ◌≢◌, ℕ, ◌+◌, ◌<◌, ◌≤◌, List, [], ◌∷◌, ◌++◌, length, drop, get_or, refl, sym, ap, subst, ◌∙◌, Bool, inl, inr, append_assoc}
use Rattle.std.proofs.lemmas.List.{append-nil, drop_all, drop_more}
use Rattle.eos_batch.specs.declared.batch.Batch.{Batch}
use Rattle.eos_evidence.specs.declared.segment.Segment.{Segment}
use Rattle.eos_touch.specs.Front.{records_in}
use Rattle.eos_touch.proofs.Continuity.{records_in-append}
use Rattle.eos_fold.specs.declared.stop.Stop.{Stop}
use Rattle.eos_fold.specs.declared.stop.Stop.TheVariants.{AtEnd, NoBatch, Elsewhere}
use Rattle.eos_fold.specs.Fronts.{base_of, IsFront, IsSegmentFront, GoesOn}
use Rattle.eos_faults.specs.declared.walk.Walk.{Walk}
use Rattle.eos_faults.specs.steps.Walks.{HasPassed, HasPassedSegment, HasPassedAll, HasWalked}

pub begins_all : (sequenced : Bool) (segments : List Segment) (walk : Walk) → HasPassed sequenced [] walk → HasPassedAll sequenced segments 0 walk
begins_all sequenced segments walk h = record { front = []; goes_on = λ others stop more. more; passed = h }

-- ---- the front ends

pub all_passed : (sequenced : Bool) (segments : List Segment) (i : ℕ) (walk : Walk) → length segments ≤ i → HasPassedAll sequenced segments i walk → HasWalked sequenced segments walk AtEnd
all_passed sequenced segments i walk le h = record {
  batches = h.front;
  front = subst (λ bs. IsFront 0 segments bs AtEnd) (append-nil h.front) (h.goes_on [] AtEnd (subst (λ ss. IsFront (records_in h.front) ss [] AtEnd) (sym (drop_all i segments le)) (refl, refl)));
  passed = h.passed;
}

left : (segments : List Segment) (i : ℕ) (segment : Segment) → i < length segments → segment ≡ get_or segments i segment → segment ∷ drop (i + 1) segments ≡ drop i segments
left segments i segment lt is = sym (drop_more segments i segment lt ∙ ap (λ s. s ∷ drop (i + 1) segments) (sym is))

pub begins_elsewhere : (sequenced : Bool) (segments : List Segment) (i : ℕ) (segment : Segment) (walk : Walk) (begin : ℕ) → i < length segments → segment ≡ get_or segments i segment → HasPassedAll sequenced segments i walk
    → begin ≡ base_of segment → begin ≢ walk.next → HasWalked sequenced segments walk (Elsewhere begin)
begins_elsewhere sequenced segments i segment walk begin lt is h base ne =
    let other : base_of segment ≢ records_in h.front = λ e. ne (base ∙ (e ∙ sym h.passed.next)) in
    let rest : IsFront (records_in h.front) (drop i segments) [] (Elsewhere begin) = subst (λ ss. IsFront (records_in h.front) ss [] (Elsewhere begin)) (left segments i segment lt is) (inl (other, refl, ap Elsewhere base)) in
    record {
      batches = h.front;
      front = subst (λ bs. IsFront 0 segments bs (Elsewhere begin)) (append-nil h.front) (h.goes_on [] (Elsewhere begin) rest);
      passed = h.passed;
    }

goes_nowhere : (stop : Stop) (inside : List Batch) (Others : List Batch → Type 0) → stop ≢ AtEnd → GoesOn stop inside Others inside stop
goes_nowhere AtEnd inside Others ne = absurd (ne refl)
goes_nowhere (NoBatch segment byte fault) inside Others ne = (refl, refl)
goes_nowhere (Elsewhere found) inside Others ne = (refl, refl)

pub begins_there : (sequenced : Bool) (segments : List Segment) (i : ℕ) (segment : Segment) (walk : Walk) (begin : ℕ) → (h : HasPassedAll sequenced segments i walk) → begin ≡ base_of segment → begin ≡ walk.next → base_of segment ≡ records_in h.front
begins_there sequenced segments i segment walk begin h base eq = sym base ∙ (eq ∙ h.passed.next)

pub stops_inside : (sequenced : Bool) (segments : List Segment) (i : ℕ) (segment : Segment) (walk after : Walk) (begin : ℕ) (stop : Stop) → i < length segments → segment ≡ get_or segments i segment → (h : HasPassedAll sequenced segments i walk)
    → begin ≡ base_of segment → begin ≡ walk.next → stop ≢ AtEnd → HasPassedSegment sequenced h.front segment.bytes after stop → HasWalked sequenced segments after stop
stops_inside sequenced segments i segment walk after begin stop lt is h base eq ne s =
    let at = records_in h.front in
    let rest : IsFront at (segment ∷ drop (i + 1) segments) s.inside stop =
    inr (begins_there sequenced segments i segment walk begin h base eq, s.inside, stop, s.segment, goes_nowhere stop s.inside (λ others. IsFront (at + records_in s.inside) (drop (i + 1) segments) others stop) ne) in
    record {
      batches = h.front ++ s.inside;
      front = h.goes_on s.inside stop (subst (λ ss. IsFront at ss s.inside stop) (left segments i segment lt is) rest);
      passed = s.passed;
    }

-- ---- the front goes on

pub passes_whole : (sequenced : Bool) (segments : List Segment) (i : ℕ) (segment : Segment) (walk after : Walk) (begin : ℕ) (end : Stop) → i < length segments → segment ≡ get_or segments i segment → (h : HasPassedAll sequenced segments i walk)
    → begin ≡ base_of segment → begin ≡ walk.next → end ≡ AtEnd → HasPassedSegment sequenced h.front segment.bytes after end → HasPassedAll sequenced segments (i + 1) after
passes_whole sequenced segments i segment walk after begin end lt is h base eq at_end s = record {
  front = h.front ++ s.inside;
  goes_on = λ others stop more.
      let at = records_in h.front in
      let inside : IsSegmentFront at segment.bytes s.inside AtEnd = subst (IsSegmentFront at segment.bytes s.inside) at_end s.segment in
      let on : IsFront (at + records_in s.inside) (drop (i + 1) segments) others stop = subst (λ (n : ℕ). IsFront n (drop (i + 1) segments) others stop) (records_in-append h.front s.inside) more in
      let rest : IsFront at (segment ∷ drop (i + 1) segments) (s.inside ++ others) stop = inr (begins_there sequenced segments i segment walk begin h base eq, s.inside, AtEnd, inside, (others, refl, on)) in
      subst (λ bs. IsFront 0 segments bs stop) (sym (append_assoc h.front s.inside others))
      (h.goes_on (s.inside ++ others) stop (subst (λ ss. IsFront at ss (s.inside ++ others) stop) (left segments i segment lt is) rest));
  passed = s.passed;
}
