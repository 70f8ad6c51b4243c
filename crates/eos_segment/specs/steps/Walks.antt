-- What a walk along a segment keeps of the batches that it has passed. It is for the private steps of `chain`; the answer
-- of `chain` itself speaks of no walk.
-- Source: KIP-98, where a broker keeps as little of each producer id: its last batches.
use Rattle.std.specs.Prelude.{◌≡◌, ℕ, ◌≤◌, ℤ, pos, true, List, [], ◌∷◌, ◌++◌, length, Some, ⊤}
use Rattle.std.specs.Ordering.{int_cmp}
use Rattle.std.specs.BTreeMap.{BTreeMap, get, btree_map_len}
use Rattle.eos_batch.specs.declared.batch.Batch.{Batch}
use Rattle.eos_touch.specs.declared.touch.Touch.{Touch}
use Rattle.eos_touch.specs.Pair.{NoneStands, IsLeast}
use Rattle.eos_touch.specs.Neighbours.{Accepts}
use Rattle.eos_segment.specs.declared.chain_walk.Walk.{Walk}
use Rattle.eos_touch.specs.declared.fault.PartitionFault.{PartitionFault}
use Rattle.eos_touch.specs.declared.fault.PartitionFaultKind.{PartitionFaultKind}
use Rattle.eos_touch.specs.declared.fault.PartitionFaultKind.TheVariants.{BadBatch, Gap, Pair, End, OpenAtEnd}
use Rattle.eos_touch.specs.FaultNames.{number_of}
use Rattle.eos_touch.specs.Touches.{touch_of}
use Rattle.eos_touch.specs.Touches.{last_touch}
use Rattle.eos_segment.specs.Counts.{IsProducerCount}
use Rattle.eos_touch.specs.Front.{begin_of, next_offset, IsContinuous}
use Rattle.eos_segment.specs.ChainFaults.{StandsAtBatch}

-- the table has the last touch of each producer id
pub record HasLast (batches : List Batch) (last : BTreeMap ℤ Touch) : Type 0 where
  pub touches : (id : ℤ) → get int_cmp last id ≡ last_touch id batches
  pub count : IsProducerCount batches (btree_map_len last)

-- the batch may follow the touch of its producer id before it
pub record MayFollow (before : List Batch) (b : Batch) : Type 0 where
  pub accepted : (producer : ℤ) (next : Touch) → touch_of b ≡ Some (producer, next) → Accepts true (last_touch producer before) next
  pub none : (producer : ℤ) (next : Touch) → touch_of b ≡ Some (producer, next) → NoneStands true (last_touch producer before) next

-- each batch may, after those before it
abbrev pub EachMayFollow : List Batch → List Batch → Type 0
EachMayFollow before [] = ⊤
EachMayFollow before (b ∷ bs) = MayFollow before b × EachMayFollow (before ++ b ∷ []) bs

-- the walk has passed these batches, which have no gap and no fault
pub record HasPassed (batches : List Batch) (walk : Walk) : Type 0 where
  pub continuous : IsContinuous batches
  pub each : EachMayFollow [] batches
  pub begin : walk.begin ≡ begin_of batches
  pub next : walk.next ≡ next_offset batches
  pub number : walk.batches ≡ length batches
  pub last : HasLast batches walk.last

-- a pair of touches may not stand so, and no lesser kind does
abbrev pub IsLeastPair : List Batch → Batch → PartitionFaultKind → Type 0
IsLeastPair before b (Pair fault producer) =
    (next : Touch) × (touch_of b ≡ Some (producer, next)) × IsLeast true (last_touch producer before) next fault
IsLeastPair before b (BadBatch segment byte batch) = ⊥
IsLeastPair before b (Gap found) = ⊥
IsLeastPair before b (End end) = ⊥
IsLeastPair before b (OpenAtEnd producer) = ⊥

-- a fault stands at the batch after these, and no lesser kind does
pub record IsLeastAtBatch (before : List Batch) (b : Batch) (fault : PartitionFault) : Type 0 where
  pub topic : fault.topic ≡ []
  pub partition : fault.partition ≡ pos 0
  pub stands : StandsAtBatch before b fault.offset fault.kind
  pub least : (offset : ℕ) (kind : PartitionFaultKind) → StandsAtBatch before b offset kind → number_of fault.kind ≤ number_of kind
