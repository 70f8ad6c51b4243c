-- A segment that is good as a whole partition: its bytes are record batches without a gap, and the touches of every
-- producer id are sequenced and fenced. Both are said of all pairs of touches, never of neighbours.
-- Sources: KIP-98 (Idempotent Producer Guarantees, fencing), KIP-890 (the epoch is raised at a transaction's end).
use Rattle.std.specs.Prelude.{◌≡◌, ℕ, ℤ, List, [], length}
use Rattle.eos_batch.specs.declared.batch.Batch.{Batch}
use Rattle.eos_touch.specs.Rules.{Sequenced, Fenced}
use Rattle.eos_segment.specs.declared.one_segment.counts.Chain.{Chain}
use Rattle.eos_touch.specs.declared.fault.PartitionFaultKind.{PartitionFaultKind}
use Rattle.eos_touch.specs.Touches.{touches_of}
use Rattle.eos_segment.specs.Counts.{IsProducerCount}
use Rattle.eos_touch.specs.Front.{IsBeginning}
use Rattle.eos_segment.specs.ChainFaults.{Stands}

-- The bytes are texts of all these batches without a gap, and nothing is left; both counts are right; every producer
-- id is sequenced and fenced; and so no fault stands.
pub record IsGood (bytes : List ℕ) (chain : Chain) : Type 0 where
  pub all : List Batch
  pub texts : IsBeginning bytes all []
  pub batches : chain.batches ≡ length all
  pub producers : IsProducerCount all chain.producers
  pub sequenced : (id : ℤ) → Sequenced (touches_of id all)
  pub fenced : (id : ℤ) → Fenced (touches_of id all)
  pub no_fault : (offset : ℕ) (kind : PartitionFaultKind) → Stands bytes offset kind → ⊥
