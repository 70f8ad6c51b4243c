-- Two verdicts of one evidence are equal.
use Rattle.std.proofs.Common.{◌≡◌, ℕ, zero, suc, ◌≤◌, inl, inr, Bool, false, not, List, [], ◌∷◌, refl, sym, ap, subst, ◌∙◌, ℤ, arith}
use Rattle.std.specs.Ordering.{is_gt, nat_cmp, int_cmp, ordering_reverse}
use Rattle.std.specs.Cmp.{IsTotalOrder}
use Rattle.std.specs.List.Sorted.{IsStrictlySortedBy}
use Rattle.std.specs.declared.cmp.Ordering.{Ordering}
use Rattle.std.specs.declared.cmp.Ordering.TheVariants.{Less, Equal, Greater}
use Rattle.std.proofs.lemmas.Cmp.{nat_cmp_total, int_cmp_total, on_total, then_total, tied_itself}
use Rattle.std.proofs.lemmas.Map.Keys.{sorted_head, sorted_tail}
use Rattle.eos_base.specs.Least.{IsLeast}
use Rattle.eos_base.specs.PartitionNames.{name_cmp}
use Rattle.eos_base.proofs.Exact.{then_parts, nat_exact, int_exact}
use Rattle.eos_base.proofs.NamesInOrder.{name_total, name_exact}
use Rattle.eos_batch.specs.declared.batch.Batch.{Batch}
use Rattle.eos_batch.specs.declared.fault.BatchFault.{BatchFault}
use Rattle.eos_touch.specs.declared.pair.PairFault.{PairFault}
use Rattle.eos_touch.specs.declared.pair.PairFault.TheVariants.{FirstSequence, Sequence, ZombieEpoch, EpochWhileOpen, NoBump, MixedProducer, MarkerKind}
use Rattle.eos_touch.specs.Pair as pairs
use Rattle.eos_evidence.specs.declared.partition.Partition.{Partition}
use Rattle.eos_evidence.specs.Ends.{end_cmp}
use Rattle.eos_evidence.specs.Topics.{is_internal}
use Rattle.eos_fold.specs.declared.stop.Stop.{Stop}
use Rattle.eos_fold.specs.declared.stop.Stop.TheVariants.{NoBatch, Elsewhere}
use Rattle.eos_touch.specs.declared.fault.PartitionFault.{PartitionFault}
use Rattle.eos_touch.specs.declared.fault.PartitionFaultKind.{PartitionFaultKind}
use Rattle.eos_touch.specs.declared.fault.PartitionFaultKind.TheVariants.{BadBatch, Gap, Pair, End, OpenAtEnd}
use Rattle.eos_touch.specs.FaultNames.{number_of}
use Rattle.eos_fold.specs.Parts.{PartLog}
use Rattle.eos_fold.specs.Standing as folds
use Rattle.eos_commits.specs.EvidenceLogs.{IsLogOf, AreLogsOf}
use Rattle.eos_check.specs.Verdicts.{StandsInPartitions, partition_cmp, name_in}
use Rattle.eos_check.proofs.FirstFault.{of_partition, later}
use Rattle.eos_check.proofs.FrontsUnique.{one_front}
use Rattle.eos_commits.proofs.LogsInOrder.{ends_of, end_name}

-- what stands in the partitions doesn't depend on how their logs are read
pub same_standing : (ps : List Partition) (ls ms : List PartLog) (of : AreLogsOf ps ls) (are : AreLogsOf ps ms) (f : PartitionFault)
    → StandsInPartitions ps ls of f → StandsInPartitions ps ms are f
same_standing [] [] [] of are f s = s
same_standing [] [] (m ∷ ms) of are f s = absurd are
same_standing [] (l ∷ ls) ms of are f s = absurd of
same_standing (p ∷ ps) [] ms of are f s = absurd of
same_standing (p ∷ ps) (l ∷ ls) [] of are f s = absurd are
same_standing (p ∷ ps) (l ∷ ls) (m ∷ ms) of are f (inl s) =
    let e = one_front 0 p.segments of.0.batches are.0.batches of.0.stop are.0.stop of.0.front are.0.front in
    inl (subst (λ (x : Stop). folds.IsStanding p.end.topic p.end.partition p.end.end are.0.batches x f) e.1
    (subst (λ (bs : List Batch). folds.IsStanding p.end.topic p.end.partition p.end.end bs of.0.stop f) e.0 s))
same_standing (p ∷ ps) (l ∷ ls) (m ∷ ms) of are f (inr s) = inr (same_standing ps ls ms of.1 are.1 f s)

-- ---- one least fault of the partitions

pair_within : (f : PairFault) → (3 ≤ pairs.number_of f) × (pairs.number_of f ≤ 9)
pair_within FirstSequence = (omega arith, omega arith)
pair_within Sequence = (omega arith, omega arith)
pair_within ZombieEpoch = (omega arith, omega arith)
pair_within EpochWhileOpen = (omega arith, omega arith)
pair_within NoBump = (omega arith, omega arith)
pair_within MixedProducer = (omega arith, omega arith)
pair_within MarkerKind = (omega arith, omega arith)

abbrev nth : PairFault → List PairFault → ℕ → PairFault
nth d [] n = d
nth d (f ∷ fs) zero = f
nth d (f ∷ fs) (suc n) = nth d fs n

-- the kind of this number
abbrev pair_of : ℕ → PairFault
pair_of = nth MarkerKind (MarkerKind ∷ MarkerKind ∷ MarkerKind ∷ FirstSequence ∷ Sequence ∷ ZombieEpoch ∷ EpochWhileOpen ∷ NoBump ∷ MixedProducer ∷ MarkerKind ∷ [])

pair_back : (f : PairFault) → pair_of (pairs.number_of f) ≡ f
pair_back FirstSequence = refl
pair_back Sequence = refl
pair_back ZombieEpoch = refl
pair_back EpochWhileOpen = refl
pair_back NoBump = refl
pair_back MixedProducer = refl
pair_back MarkerKind = refl

one_pair : (f g : PairFault) → pairs.number_of f ≡ pairs.number_of g → f ≡ g
one_pair f g e = sym (pair_back f) ∙ (ap pair_of e ∙ pair_back g)

bad_is : (s b : ℕ) (f : BatchFault) (t c : ℕ) (g : BatchFault) → NoBatch s b f ≡ NoBatch t c g → BadBatch s b f ≡ BadBatch t c g
bad_is s b f t c g e = cc

gap_is : (m n : ℕ) → Elsewhere m ≡ Elsewhere n → Gap m ≡ Gap n
gap_is m n e = cc

module _ (sequenced : Bool) (end : ℤ) (bs : List Batch) (stop : Stop) (offset : ℕ) where
  one_kind : (k l : PartitionFaultKind) → folds.StandsIn sequenced end bs stop offset k → folds.StandsIn sequenced end bs stop offset l
      → number_of k ≡ number_of l → folds.producer_of k ≡ folds.producer_of l → k ≡ l
  one_kind (BadBatch s b f) (BadBatch t c g) h k n p = bad_is s b f t c g (sym h.0 ∙ k.0)
  one_kind (BadBatch s b f) (Gap m) h k n p = absurd cc
  one_kind (BadBatch s b f) (Pair g q) h k n p = absurd (omega (arith, n, pair_within g))
  one_kind (BadBatch s b f) (End d) h k n p = absurd cc
  one_kind (BadBatch s b f) (OpenAtEnd q) h k n p = absurd cc
  one_kind (Gap m) (BadBatch t c g) h k n p = absurd cc
  one_kind (Gap m) (Gap x) h k n p = gap_is m x (sym h.0 ∙ k.0)
  one_kind (Gap m) (Pair g q) h k n p = absurd (omega (arith, n, pair_within g))
  one_kind (Gap m) (End d) h k n p = absurd cc
  one_kind (Gap m) (OpenAtEnd q) h k n p = absurd cc
  one_kind (Pair f r) (BadBatch t c g) h k n p = absurd (omega (arith, n, pair_within f))
  one_kind (Pair f r) (Gap m) h k n p = absurd (omega (arith, n, pair_within f))
  one_kind (Pair f r) (Pair g q) h k n p = let e = one_pair f g n in λ i. Pair (e i) (p i)
  one_kind (Pair f r) (End d) h k n p = absurd (omega (arith, n, pair_within f))
  one_kind (Pair f r) (OpenAtEnd q) h k n p = absurd (omega (arith, n, pair_within f))
  one_kind (End a) (BadBatch t c g) h k n p = absurd cc
  one_kind (End a) (Gap m) h k n p = absurd cc
  one_kind (End a) (Pair g q) h k n p = absurd (omega (arith, n, pair_within g))
  one_kind (End a) (End d) h k n p = ap End (h.2 ∙ sym k.2)
  one_kind (End a) (OpenAtEnd q) h k n p = absurd cc
  one_kind (OpenAtEnd r) (BadBatch t c g) h k n p = absurd cc
  one_kind (OpenAtEnd r) (Gap m) h k n p = absurd cc
  one_kind (OpenAtEnd r) (Pair g q) h k n p = absurd (omega (arith, n, pair_within g))
  one_kind (OpenAtEnd r) (End d) h k n p = absurd cc
  one_kind (OpenAtEnd r) (OpenAtEnd q) h k n p = ap OpenAtEnd p

-- tied faults that stand are equal
tied_here : (p : Partition) (l : PartLog) (of : IsLogOf p l) (f g : PartitionFault) → folds.IsStanding p.end.topic p.end.partition p.end.end of.batches of.stop f
    → folds.IsStanding p.end.topic p.end.partition p.end.end of.batches of.stop g → folds.fault_cmp f g ≡ Equal → f ≡ g
tied_here p l of f g h k e =
    let r = then_parts (nat_cmp f.offset g.offset) _ e in
    let s = then_parts (nat_cmp (number_of f.kind) (number_of g.kind)) (int_cmp (folds.producer_of f.kind) (folds.producer_of g.kind)) r.1 in
    let topic = h.of_topic ∙ sym k.of_topic in
    let partition = h.of_number ∙ sym k.of_number in
    let offset = nat_exact f.offset g.offset r.0 in
    let moved : folds.StandsIn (not (is_internal p.end.topic)) p.end.end of.batches of.stop f.offset g.kind =
    subst (λ (o : ℕ). folds.StandsIn (not (is_internal p.end.topic)) p.end.end of.batches of.stop o g.kind) (sym offset) k.stands in
    let kind = one_kind (not (is_internal p.end.topic)) p.end.end of.batches of.stop f.offset f.kind g.kind h.stands moved
    (nat_exact (number_of f.kind) (number_of g.kind) s.0) (int_exact (folds.producer_of f.kind) (folds.producer_of g.kind) s.1) in
    λ i. record { topic = topic i; partition = partition i; offset = offset i; kind = kind i }

not_less : (a : Ordering) → a ≡ Less → a ≡ Equal → ⊥
not_less a e f = cc

tied_equal : (ps : List Partition) (ls : List PartLog) (of : AreLogsOf ps ls) → IsStrictlySortedBy end_cmp (ends_of ps) → (f g : PartitionFault)
    → StandsInPartitions ps ls of f → StandsInPartitions ps ls of g → partition_cmp f g ≡ Equal → f ≡ g
tied_equal [] [] of o f g h k e = absurd h
tied_equal [] (l ∷ ls) of o f g h k e = absurd h
tied_equal (p ∷ ps) [] of o f g h k e = absurd h
tied_equal (p ∷ ps) (l ∷ ls) of o f g (inl h) (inl k) e = tied_here p l of.0 f g h k (then_parts (name_cmp (name_in f) (name_in g)) (folds.fault_cmp f g) e).1
tied_equal (p ∷ ps) (l ∷ ls) of o f g (inl h) (inr k) e =
    let names = (then_parts (name_cmp (name_in f) (name_in g)) (folds.fault_cmp f g) e).0 in
    let below = later p.end ps ls of.1 (sorted_head end_cmp p.end (ends_of ps) o) g k in
    absurd (not_less (name_cmp (name_in f) (name_in g)) (ap (λ n. name_cmp n (name_in g)) (of_partition p l of.0 f h) ∙ below) names)
tied_equal (p ∷ ps) (l ∷ ls) of o f g (inr h) (inl k) e =
    let names = name_exact (name_in f) (name_in g) (then_parts (name_cmp (name_in f) (name_in g)) (folds.fault_cmp f g) e).0 in
    let below = later p.end ps ls of.1 (sorted_head end_cmp p.end (ends_of ps) o) f h in
    let same = ap (λ n. name_cmp n (name_in f)) (sym (of_partition p l of.0 g k) ∙ sym names) ∙ tied_itself name_total (name_in f) in
    absurd (not_less (name_cmp (end_name p.end) (name_in f)) below same)
tied_equal (p ∷ ps) (l ∷ ls) of o f g (inr h) (inr k) e = tied_equal ps ls of.1 (sorted_tail end_cmp p.end (ends_of ps) o) f g h k e

pub partition_total : IsTotalOrder partition_cmp
partition_total = then_total (on_total name_in name_total) (then_total (on_total (λ f. f.offset) nat_cmp_total)
    (then_total (on_total (λ f. number_of f.kind) nat_cmp_total) (on_total (λ f. folds.producer_of f.kind) int_cmp_total)))

tied : (a b : Ordering) → a ≡ ordering_reverse b → is_gt a ≡ false → is_gt b ≡ false → a ≡ Equal
tied Equal b e p q = refl
tied Greater b e p q = absurd cc
tied Less Less e p q = absurd cc
tied Less Equal e p q = absurd cc
tied Less Greater e p q = absurd cc

pub one_partition_fault : (ps : List Partition) (ls : List PartLog) (of : AreLogsOf ps ls) → IsStrictlySortedBy end_cmp (ends_of ps) → (f g : PartitionFault)
    → IsLeast partition_cmp (StandsInPartitions ps ls of) f → IsLeast partition_cmp (StandsInPartitions ps ls of) g → f ≡ g
one_partition_fault ps ls of o f g h k = tied_equal ps ls of o f g h.stands k.stands
    (tied (partition_cmp f g) (partition_cmp g f) (partition_total.antisymm f g) (h.least g k.stands) (k.least f h.stands))
