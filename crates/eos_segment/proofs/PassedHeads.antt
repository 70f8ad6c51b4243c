-- Batches that were read, passed one after the other.
use Rattle.std.proofs.Common.{◌≡◌, ◌≢◌, ℕ, ◌+◌, ◌<◌, ◌≤◌, List, [], ◌∷◌, ◌++◌, length, drop, get_or, Option, Some, None, Err, ap, subst, ◌∙◌, arith, pos}
use Rattle.std.proofs.lemmas.List.{length-drop, drop_all, drop_more}
use Rattle.eos_batch.specs.declared.batch.Batch.{Batch}
use Rattle.eos_batch.specs.declared.fault.BatchFault.{BatchFault}
use Rattle.eos_batch.specs.declared.fault.BatchFault.TheVariants as faults
use Rattle.eos_batch.specs.declared.head.BatchHead.{BatchHead}
use Rattle.eos_batch.specs.Heads.{head_of}
use Rattle.eos_batch.specs.Reading.{batch_at}
use Rattle.eos_batch.specs.Rules.{IsCounted}
use Rattle.eos_batch.specs.Segment.{Splits}
use Rattle.eos_touch.specs.declared.fault.PartitionFault.{PartitionFault}
use Rattle.eos_touch.specs.declared.fault.PartitionFaultKind.TheVariants.{BadBatch}
use Rattle.eos_touch.proofs.Beginnings.{splits-push}
use Rattle.eos_reading.specs.Heads.{HasHeads}
use Rattle.eos_segment.specs.declared.chain_walk.Walk.{Walk}
use Rattle.eos_segment.specs.steps.Feeding.{IsBroken, EndsAt, IsBefore, PassesTo}
use Rattle.eos_segment.specs.steps.Walks.{HasPassed, IsLeastAtBatch}
use Rattle.eos_segment.proofs.FedSteps.{bad_stays, batch_stays}

-- ---- one batch more

pub one_more : (fed rest : List ℕ) (h : BatchHead) (hs : List BatchHead) (old new : Walk) → IsBefore fed rest (h ∷ hs) old
    → ((before : List Batch) (b : Batch) (size : ℕ) → h ≡ head_of b size → IsCounted b → HasPassed before old → HasPassed (before ++ b ∷ []) new) → IsBefore fed rest hs new
one_more fed rest h hs old new w passes = go w.bytes w.batches w.texts w.heads_are
  where
    go : (bytes : List ℕ) (batches : List Batch) → Splits fed w.before bytes → HasHeads bytes batches (h ∷ hs) rest → IsBefore fed rest hs new
    go bytes [] s x = absurd x
    go bytes (b ∷ bs) s x = record {
      before = w.before ++ b ∷ [];
      passed = passes w.before b (length x.0) x.4 x.2.counted w.passed;
      bytes = x.1;
      texts = splits-push fed w.before bytes b x.0 x.1 s x.2 x.3;
      batches = bs;
      heads_are = x.5;
    }

pub broken : (fed rest : List ℕ) (h : BatchHead) (hs : List BatchHead) (old : Walk) (fault : PartitionFault) → IsBefore fed rest (h ∷ hs) old
    → ((before : List Batch) (b : Batch) (size : ℕ) → h ≡ head_of b size → IsCounted b → HasPassed before old → IsLeastAtBatch before b fault) → IsBroken fed fault
broken fed rest h hs old fault w least = go w.bytes w.batches w.texts w.heads_are
  where
    go : (bytes : List ℕ) (batches : List Batch) → Splits fed w.before bytes → HasHeads bytes batches (h ∷ hs) rest → IsBroken fed fault
    go bytes [] s x = absurd x
    go bytes (b ∷ bs) s x = batch_stays fed w.before bytes b fault s w.passed.continuous w.passed.each (x.0, x.1, x.2, x.3) (least w.before b (length x.0) x.4 x.2.counted w.passed)

pub all_passed : (fed rest : List ℕ) (walk : Walk) → IsBefore fed rest [] walk → PassesTo fed rest walk None
all_passed fed rest walk w = go w.bytes w.batches w.texts w.heads_are
  where
    go : (bytes : List ℕ) (batches : List Batch) → Splits fed w.before bytes → HasHeads bytes batches [] rest → PassesTo fed rest walk None
    go bytes [] s x = (w.before, w.passed, subst (Splits fed w.before) x s)
    go bytes (b ∷ bs) s x = absurd x

-- ---- in a list of them

module _ (fed rest : List ℕ) (heads : List BatchHead) (i : ℕ) (d : BatchHead) (old : Walk) (inside : i < length heads) (w : IsBefore fed rest (drop i heads) old) where
  here : IsBefore fed rest (get_or heads i d ∷ drop (i + 1) heads) old
  here = subst (λ (hs : List BatchHead). IsBefore fed rest hs old) (drop_more heads i d inside) w

  pub next_passed : (new : Walk) → ((before : List Batch) (b : Batch) (size : ℕ) → get_or heads i d ≡ head_of b size → IsCounted b → HasPassed before old → HasPassed (before ++ b ∷ []) new) → IsBefore fed rest (drop (i + 1) heads) new
  next_passed new passes = one_more fed rest (get_or heads i d) (drop (i + 1) heads) old new here passes

  pub next_broken : (fault : PartitionFault) → ((before : List Batch) (b : Batch) (size : ℕ) → get_or heads i d ≡ head_of b size → IsCounted b → HasPassed before old → IsLeastAtBatch before b fault) → IsBroken fed fault
  next_broken fault least = broken fed rest (get_or heads i d) (drop (i + 1) heads) old fault here least

pub none_left : (fed rest : List ℕ) (heads : List BatchHead) (i : ℕ) (walk : Walk) → length heads ≤ i → IsBefore fed rest (drop i heads) walk → PassesTo fed rest walk None
none_left fed rest heads i walk le w = all_passed fed rest walk (subst (λ (hs : List BatchHead). IsBefore fed rest hs walk) (drop_all i heads le) w)

-- ---- a buffer

pub ends_cut : (fed rest : List ℕ) (walk : Walk) (found : Option PartitionFault) (fault : BatchFault) → found ≡ None → PassesTo fed rest walk found → batch_at rest ≡ Err fault → fault ≡ faults.Truncated → EndsAt fed rest walk None
ends_cut fed rest walk found fault none passed e is =
    let p = subst (PassesTo fed rest walk) none passed in
    record { before = p.0; passed = p.1; texts = p.2; cut = e ∙ ap (λ (f : BatchFault). Err f) is }

pub ends_at_batch : (fed rest : List ℕ) (walk : Walk) (found : Option PartitionFault) (fault : PartitionFault) → found ≡ Some fault → PassesTo fed rest walk found → EndsAt fed rest walk (Some fault)
ends_at_batch fed rest walk found fault some passed = subst (PassesTo fed rest walk) some passed

pub ends_bad : (fed buffer : List ℕ) (walk : Walk) (found : Option PartitionFault) (batch : BatchFault) (place byte at : ℕ) (fault : PartitionFault) → found ≡ None → PassesTo fed (drop byte buffer) walk found → batch_at (drop byte buffer) ≡ Err batch
    → batch ≢ faults.Truncated → byte ≤ length buffer → place + length buffer ≡ length fed → at ≡ place + byte
    → fault.topic ≡ [] → fault.partition ≡ pos 0 → fault.offset ≡ walk.next → fault.kind ≡ BadBatch walk.begin at batch → EndsAt fed (drop byte buffer) walk (Some fault)
ends_bad fed buffer walk found batch place byte at fault none passed e ne within sum is topic partition offset kind =
    let p = subst (PassesTo fed (drop byte buffer) walk) none passed in
    bad_stays fed p.0 (drop byte buffer) batch at fault p.2 p.1.continuous p.1.each e ne (omega (arith, length-drop byte buffer, within, sum, is))
    topic partition (offset ∙ p.1.next) (kind ∙ ap (λ (n : ℕ). BadBatch n at batch) p.1.begin)
