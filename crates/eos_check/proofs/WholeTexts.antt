-- Segments are texts of batches exactly where their front ends with their bytes.
use Rattle.std.proofs.Common.{◌≡◌, ◌↔◌, ℕ, ◌+◌, ℤ, List, [], ◌∷◌, refl, subst, inl, inr}
use Rattle.eos_batch.specs.declared.batch.Batch.{Batch}
use Rattle.eos_batch.specs.Segment.{Splits}
use Rattle.eos_evidence.specs.declared.segment.Segment.{Segment}
use Rattle.eos_touch.specs.Front.{records_in}
use Rattle.eos_fold.specs.declared.stop.Stop.{Stop}
use Rattle.eos_fold.specs.declared.stop.Stop.TheVariants.{AtEnd, NoBatch, Elsewhere}
use Rattle.eos_fold.specs.Fronts.{base_of, IsSegmentFront, GoesOn, IsFront}
use Rattle.eos_fold.specs.Parts.{PartLog}
use Rattle.eos_fold.specs.Whole.{IsPartOf}
use Rattle.eos_check.specs.PartitionRules.{AreTexts}
use Rattle.eos_check.proofs.FrontsUnique.{one_front}

pub front_of : (at : ℕ) (ss : List Segment) (bs : List Batch) → AreTexts at ss bs → IsFront at ss bs AtEnd
front_of at [] bs h = (h, refl)
front_of at (s ∷ ss) bs h =
    inr (h.0, h.1, AtEnd, record { rest = []; texts = h.4; continuous = h.5; stops = refl }, (h.2, h.3, front_of (at + records_in h.1) ss h.2 h.6))

one_more : (at : ℕ) (s : Segment) (ss : List Segment) (bs inside : List Batch) (inner : Stop) → base_of s ≡ at → IsSegmentFront at s.bytes inside inner
    → ((others : List Batch) → IsFront (at + records_in inside) ss others AtEnd → AreTexts (at + records_in inside) ss others)
    → GoesOn inner inside (λ others. IsFront (at + records_in inside) ss others AtEnd) bs AtEnd → AreTexts at (s ∷ ss) bs
one_more at s ss bs inside AtEnd named front rec on =
    (named, inside, on.0, on.1, subst (λ rest. Splits s.bytes inside rest) front.stops front.texts, front.continuous, rec on.0 on.2)
one_more at s ss bs inside (NoBatch segment byte fault) named front rec on = absurd (let e = on.1 in cc)
one_more at s ss bs inside (Elsewhere found) named front rec on = absurd (let e = on.1 in cc)

pub texts_of : (at : ℕ) (ss : List Segment) (bs : List Batch) → IsFront at ss bs AtEnd → AreTexts at ss bs
texts_of at [] bs h = h.0
texts_of at (s ∷ ss) bs (inl h) = absurd (let e = h.2 in cc)
texts_of at (s ∷ ss) bs (inr h) = one_more at s ss bs h.1 h.2 h.0 h.3 (λ others f. texts_of (at + records_in h.1) ss others f) h.4

-- what the front of the same segments is, whose bytes are texts of these batches
pub same_front : (ss : List Segment) (bs : List Batch) (found : List Batch) (stop : Stop) → IsFront 0 ss found stop → AreTexts 0 ss bs → (stop ≡ AtEnd) × (found ≡ bs)
same_front ss bs found stop front texts = let e = one_front 0 ss found bs stop AtEnd front (front_of 0 ss bs texts) in (e.1, e.0)

pub at_the_end : (ss : List Segment) (bs : List Batch) (found : List Batch) (stop : Stop) → IsFront 0 ss found stop → (stop ≡ AtEnd) × (found ≡ bs) → AreTexts 0 ss bs
at_the_end ss bs found stop front e =
    texts_of 0 ss bs (subst (λ (xs : List Batch). IsFront 0 ss xs AtEnd) e.1 (subst (λ (s : Stop). IsFront 0 ss found s) e.0 front))

pub fronts : (ss : List Segment) (bs : List Batch) → AreTexts 0 ss bs ↔ IsFront 0 ss bs AtEnd
fronts ss bs = (front_of 0 ss bs, texts_of 0 ss bs)

pub parts : (topic : List ℕ) (number end : ℤ) (ss : List Segment) (part : PartLog) (of : IsPartOf topic number end ss part) (bs : List Batch)
    → AreTexts 0 ss bs ↔ ((of.stop ≡ AtEnd) × (of.batches ≡ bs))
parts topic number end ss part of bs = (same_front ss bs of.batches of.stop of.front, at_the_end ss bs of.batches of.stop of.front)
