-- The least fault at a batch.
use Rattle.std.proofs.Common.{◌≡◌, ℕ, ◌≤◌, Some, List, [], ◌∷◌, ◌++◌, refl, sym, subst, ◌∙◌, arith, ℤ, pos, true, append_assoc}
use Rattle.eos_batch.specs.declared.batch.Batch.{Batch}
use Rattle.eos_touch.specs.declared.touch.Touch.{Touch}
use Rattle.eos_touch.specs.declared.pair.PairFault.{PairFault}
use Rattle.eos_touch.specs.Pair as pair
use Rattle.eos_touch.specs.declared.fault.PartitionFault.{PartitionFault}
use Rattle.eos_touch.specs.declared.fault.PartitionFaultKind.{PartitionFaultKind}
use Rattle.eos_touch.specs.declared.fault.PartitionFaultKind.TheVariants.{BadBatch, Gap, Pair, End, OpenAtEnd}
use Rattle.eos_touch.specs.FaultNames.{number_of}
use Rattle.eos_touch.specs.Touches.{touch_of}
use Rattle.eos_touch.specs.Touches.{last_touch}
use Rattle.eos_batch.specs.Offsets.{offset_of}
use Rattle.eos_touch.specs.Front.{next_offset, IsContinuous}
use Rattle.eos_segment.specs.ChainFaults.{StandsAtBatch}
use Rattle.eos_segment.specs.steps.Walks.{MayFollow, EachMayFollow, IsLeastPair, IsLeastAtBatch}
use Rattle.eos_touch.proofs.TouchLists.{append-nil}
use Rattle.eos_touch.proofs.Continuity.{expected, expects}

gap_least : (before : List Batch) (b : Batch) (found : ℕ) → (IsContinuous (before ++ b ∷ []) → ⊥) → (offset : ℕ) (kind : PartitionFaultKind) → StandsAtBatch before b offset kind → number_of (Gap found) ≤ number_of kind
gap_least before b found never offset (BadBatch s y f) h = absurd h
gap_least before b found never offset (Gap g) h = omega arith
gap_least before b found never offset (Pair f p) h = absurd (never h.0)
gap_least before b found never offset (End e) h = absurd h
gap_least before b found never offset (OpenAtEnd p) h = absurd h

expected_next : (before : List Batch) (b : Batch) → (offset_of b ≡ expected before b → ⊥) → expected before b ≡ next_offset before
expected_next [] b never = absurd (never refl)
expected_next (x ∷ xs) b never = refl

-- a batch with another base offset
pub gap_at_batch : (before : List Batch) (b : Batch) (fault : PartitionFault) (next : ℕ) → next ≡ expected before b → (offset_of b ≡ next → ⊥)
    → fault.topic ≡ [] → fault.partition ≡ pos 0 → fault.offset ≡ next → fault.kind ≡ Gap (offset_of b) → IsLeastAtBatch before b fault
gap_at_batch before b fault next e never topic partition offset kind =
    let other : offset_of b ≡ expected before b → ⊥ = λ q. never (q ∙ sym e) in
    let gap : IsContinuous (before ++ b ∷ []) → ⊥ = λ q. other (expects before b q) in
    record {
      topic = topic;
      partition = partition;
      stands = subst (StandsAtBatch before b fault.offset) (sym kind) (gap, offset ∙ (e ∙ expected_next before b other), refl);
      least = subst (λ (k : PartitionFaultKind). (o : ℕ) (other : PartitionFaultKind) → StandsAtBatch before b o other → number_of k ≤ number_of other) (sym kind) (gap_least before b (offset_of b) gap);
    }

some_is : {X : Type 0} (x y : X) → Some x ≡ Some y → x ≡ y
some_is x y e = cc

pair_least : (before : List Batch) (b : Batch) (f : PairFault) (p : ℤ) (next : Touch) → IsContinuous (before ++ b ∷ []) → touch_of b ≡ Some (p, next) → pair.IsLeast true (last_touch p before) next f
    → (offset : ℕ) (kind : PartitionFaultKind) → StandsAtBatch before b offset kind → number_of (Pair f p) ≤ number_of kind
pair_least before b f p next on some l offset (BadBatch s y g) h = absurd h
pair_least before b f p next on some l offset (Gap g) h = absurd (h.0 on)
pair_least before b f p next on some l offset (Pair g q) h =
    let same : (q, h.2) ≡ (p, next) = some_is (q, h.2) (p, next) (sym h.3 ∙ some) in
    l.least g (subst (λ (x : ℤ × Touch). pair.stands true (last_touch x.0 before) x.1 g ≡ true) same h.4)
pair_least before b f p next on some l offset (End e) h = absurd h
pair_least before b f p next on some l offset (OpenAtEnd q) h = absurd h

-- a batch that may not follow
pub pair_at_batch : (before : List Batch) (b : Batch) (fault : PartitionFault) (kind : PartitionFaultKind) → IsContinuous (before ++ b ∷ []) → IsLeastPair before b kind
    → fault.topic ≡ [] → fault.partition ≡ pos 0 → fault.offset ≡ offset_of b → fault.kind ≡ kind → IsLeastAtBatch before b fault
pair_at_batch before b fault (BadBatch s y g) on l topic partition offset e = absurd l
pair_at_batch before b fault (Gap g) on l topic partition offset e = absurd l
pair_at_batch before b fault (Pair f p) on l topic partition offset e = record {
  topic = topic;
  partition = partition;
  stands = subst (StandsAtBatch before b fault.offset) (sym e) (on, offset, l.0, l.1, l.2.holds);
  least = subst (λ (k : PartitionFaultKind). (o : ℕ) (other : PartitionFaultKind) → StandsAtBatch before b o other → number_of k ≤ number_of other) (sym e) (pair_least before b f p l.0 on l.1 l.2);
}
pair_at_batch before b fault (End g) on l topic partition offset e = absurd l
pair_at_batch before b fault (OpenAtEnd g) on l topic partition offset e = absurd l

-- one more that may follow
pub each-push : (before bs : List Batch) (b : Batch) → EachMayFollow before bs → MayFollow (before ++ bs) b → EachMayFollow before (bs ++ b ∷ [])
each-push before [] b h m = (subst (λ (xs : List Batch). MayFollow xs b) (append-nil before) m, tt)
each-push before (x ∷ xs) b h m = (h.0, each-push (before ++ x ∷ []) xs b h.1 (subst (λ (ys : List Batch). MayFollow ys b) (simp append_assoc) m))
