-- Of what stands in a partition, two that are tied are equal.
use Rattle.std.proofs.Common.{◌≡◌, ℕ, zero, suc, ◌≤◌, Bool, not, List, [], ◌∷◌, refl, sym, ap, subst, ◌∙◌, ℤ, arith}
use Rattle.std.specs.Ordering.{nat_cmp, int_cmp}
use Rattle.std.specs.declared.cmp.Ordering.TheVariants.{Equal}
use Rattle.eos_base.proofs.Exact.{then_parts, nat_exact, int_exact}
use Rattle.eos_batch.specs.declared.batch.Batch.{Batch}
use Rattle.eos_batch.specs.declared.fault.BatchFault.{BatchFault}
use Rattle.eos_touch.specs.declared.pair.PairFault.{PairFault}
use Rattle.eos_touch.specs.declared.pair.PairFault.TheVariants.{FirstSequence, Sequence, ZombieEpoch, EpochWhileOpen, NoBump, MixedProducer, MarkerKind}
use Rattle.eos_touch.specs.Pair as pairs
use Rattle.eos_touch.specs.declared.fault.PartitionFault.{PartitionFault}
use Rattle.eos_touch.specs.declared.fault.PartitionFaultKind.{PartitionFaultKind}
use Rattle.eos_touch.specs.declared.fault.PartitionFaultKind.TheVariants.{BadBatch, Gap, Pair, End, OpenAtEnd}
use Rattle.eos_touch.specs.FaultNames.{number_of}
use Rattle.eos_evidence.specs.Topics.{is_internal}
use Rattle.eos_fold.specs.declared.stop.Stop.{Stop}
use Rattle.eos_fold.specs.declared.stop.Stop.TheVariants.{NoBatch, Elsewhere}
use Rattle.eos_fold.specs.Standing.{StandsIn, IsStanding, producer_of, fault_cmp}

pair_within : (f : PairFault) → (3 ≤ pairs.number_of f) × (pairs.number_of f ≤ 9)
pair_within FirstSequence = (omega arith, omega arith)
pair_within Sequence = (omega arith, omega arith)
pair_within ZombieEpoch = (omega arith, omega arith)
pair_within EpochWhileOpen = (omega arith, omega arith)
pair_within NoBump = (omega arith, omega arith)
pair_within MixedProducer = (omega arith, omega arith)
pair_within MarkerKind = (omega arith, omega arith)

abbrev nth : PairFault → List PairFault → ℕ → PairFault
nth d [] n = d
nth d (f ∷ fs) zero = f
nth d (f ∷ fs) (suc n) = nth d fs n

-- the kind of this number
abbrev pair_of : ℕ → PairFault
pair_of = nth MarkerKind (MarkerKind ∷ MarkerKind ∷ MarkerKind ∷ FirstSequence ∷ Sequence ∷ ZombieEpoch ∷ EpochWhileOpen ∷ NoBump ∷ MixedProducer ∷ MarkerKind ∷ [])

pair_back : (f : PairFault) → pair_of (pairs.number_of f) ≡ f
pair_back FirstSequence = refl
pair_back Sequence = refl
pair_back ZombieEpoch = refl
pair_back EpochWhileOpen = refl
pair_back NoBump = refl
pair_back MixedProducer = refl
pair_back MarkerKind = refl

one_pair : (f g : PairFault) → pairs.number_of f ≡ pairs.number_of g → f ≡ g
one_pair f g e = sym (pair_back f) ∙ (ap pair_of e ∙ pair_back g)

bad_is : (s b : ℕ) (f : BatchFault) (t c : ℕ) (g : BatchFault) → NoBatch s b f ≡ NoBatch t c g → BadBatch s b f ≡ BadBatch t c g
bad_is s b f t c g e = cc

gap_is : (m n : ℕ) → Elsewhere m ≡ Elsewhere n → Gap m ≡ Gap n
gap_is m n e = cc

module _ (sequenced : Bool) (end : ℤ) (bs : List Batch) (stop : Stop) (offset : ℕ) where
  one_kind : (k l : PartitionFaultKind) → StandsIn sequenced end bs stop offset k → StandsIn sequenced end bs stop offset l → number_of k ≡ number_of l → producer_of k ≡ producer_of l → k ≡ l
  one_kind (BadBatch s b f) (BadBatch t c g) h k n p = bad_is s b f t c g (sym h.0 ∙ k.0)
  one_kind (BadBatch s b f) (Gap m) h k n p = absurd cc
  one_kind (BadBatch s b f) (Pair g q) h k n p = absurd (omega (arith, n, pair_within g))
  one_kind (BadBatch s b f) (End d) h k n p = absurd cc
  one_kind (BadBatch s b f) (OpenAtEnd q) h k n p = absurd cc
  one_kind (Gap m) (BadBatch t c g) h k n p = absurd cc
  one_kind (Gap m) (Gap x) h k n p = gap_is m x (sym h.0 ∙ k.0)
  one_kind (Gap m) (Pair g q) h k n p = absurd (omega (arith, n, pair_within g))
  one_kind (Gap m) (End d) h k n p = absurd cc
  one_kind (Gap m) (OpenAtEnd q) h k n p = absurd cc
  one_kind (Pair f r) (BadBatch t c g) h k n p = absurd (omega (arith, n, pair_within f))
  one_kind (Pair f r) (Gap m) h k n p = absurd (omega (arith, n, pair_within f))
  one_kind (Pair f r) (Pair g q) h k n p = let e = one_pair f g n in λ i. Pair (e i) (p i)
  one_kind (Pair f r) (End d) h k n p = absurd (omega (arith, n, pair_within f))
  one_kind (Pair f r) (OpenAtEnd q) h k n p = absurd (omega (arith, n, pair_within f))
  one_kind (End a) (BadBatch t c g) h k n p = absurd cc
  one_kind (End a) (Gap m) h k n p = absurd cc
  one_kind (End a) (Pair g q) h k n p = absurd (omega (arith, n, pair_within g))
  one_kind (End a) (End d) h k n p = ap End (h.2 ∙ sym k.2)
  one_kind (End a) (OpenAtEnd q) h k n p = absurd cc
  one_kind (OpenAtEnd r) (BadBatch t c g) h k n p = absurd cc
  one_kind (OpenAtEnd r) (Gap m) h k n p = absurd cc
  one_kind (OpenAtEnd r) (Pair g q) h k n p = absurd (omega (arith, n, pair_within g))
  one_kind (OpenAtEnd r) (End d) h k n p = absurd cc
  one_kind (OpenAtEnd r) (OpenAtEnd q) h k n p = ap OpenAtEnd p

pub tied_equal : (topic : List ℕ) (number end : ℤ) (bs : List Batch) (stop : Stop) (f g : PartitionFault) → IsStanding topic number end bs stop f → IsStanding topic number end bs stop g → fault_cmp f g ≡ Equal → f ≡ g
tied_equal topic number end bs stop f g h k e =
    let r = then_parts (nat_cmp f.offset g.offset) _ e in
    let s = then_parts (nat_cmp (number_of f.kind) (number_of g.kind)) (int_cmp (producer_of f.kind) (producer_of g.kind)) r.1 in
    let of_topic = h.of_topic ∙ sym k.of_topic in
    let of_number = h.of_number ∙ sym k.of_number in
    let offset = nat_exact f.offset g.offset r.0 in
    let sequenced = not (is_internal topic) in
    let moved : StandsIn sequenced end bs stop f.offset g.kind = subst (λ (o : ℕ). StandsIn sequenced end bs stop o g.kind) (sym offset) k.stands in
    let kind = one_kind sequenced end bs stop f.offset f.kind g.kind h.stands moved (nat_exact (number_of f.kind) (number_of g.kind) s.0) (int_exact (producer_of f.kind) (producer_of g.kind) s.1) in
    λ i. record { topic = of_topic i; partition = of_number i; offset = offset i; kind = kind i }
