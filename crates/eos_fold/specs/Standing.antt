-- Which faults stand in a partition's log, whose front, begun at 0, is these batches and ends so; and their order: by
-- offset, then by the number of the kind, then by producer id.
-- Sources: KIP-98 and KIP-890 for the pairs of touches and for open transactions; the end of the front and the declared
-- end are this project's own profile.
use Rattle.std.specs.Prelude.{◌≡◌, ◌≢◌, ℕ, ℤ, pos, unsigned_abs, Bool, true, not, List, ◌∷◌, ◌++◌, Option, Some, None, All}
use Rattle.std.specs.Ordering.{nat_cmp, int_cmp, then_cmp, on}
use Rattle.std.specs.declared.cmp.Ordering.{Ordering}
use Rattle.eos_base.specs.Least.{IsLeastOrNone}
use Rattle.eos_batch.specs.declared.batch.Batch.{Batch}
use Rattle.eos_touch.specs.declared.touch.Touch.{Touch}
use Rattle.eos_touch.specs.declared.pair.PairFault.{PairFault}
use Rattle.eos_touch.specs.Pair.{stands, is_open}
use Rattle.eos_evidence.specs.Topics.{is_internal}
use Rattle.eos_evidence.specs.declared.segment.Segment.{Segment}
use Rattle.eos_fold.specs.declared.stop.Stop.{Stop}
use Rattle.eos_fold.specs.declared.stop.Stop.TheVariants.{AtEnd, NoBatch, Elsewhere}
use Rattle.eos_touch.specs.declared.fault.PartitionFault.{PartitionFault}
use Rattle.eos_touch.specs.declared.fault.PartitionFaultKind.{PartitionFaultKind}
use Rattle.eos_touch.specs.declared.fault.PartitionFaultKind.TheVariants.{BadBatch, Gap, Pair, End, OpenAtEnd}
use Rattle.eos_touch.specs.FaultNames.{number_of}
use Rattle.eos_touch.specs.Touches.{touch_of}
use Rattle.eos_touch.specs.Touches.{last_touch}
use Rattle.eos_batch.specs.Offsets.{offset_of}
use Rattle.eos_touch.specs.Front.{records_in}

-- a batch's touch may not follow the touch of its producer id before it, or the first one may not stand there
pub record StandsAtTouch (sequenced : Bool) (batches : List Batch) (offset : ℕ) (fault : PairFault) (producer : ℤ) : Type 0 where
  pub before : List Batch
  pub here : Batch
  pub after : List Batch
  pub next : Touch
  pub parts : batches ≡ before ++ here ∷ after
  pub at : offset ≡ offset_of here
  pub touch : touch_of here ≡ Some (producer, next)
  pub wrong : stands sequenced (last_touch producer before) next fault ≡ true

-- the last touch is data of a transaction, which no marker ends
abbrev pub IsOpen : Option Touch → Type 0
IsOpen None = ⊥
IsOpen (Some last) = is_open last ≡ true

-- a fault of this kind stands at this offset
abbrev pub StandsIn : Bool → ℤ → List Batch → Stop → ℕ → PartitionFaultKind → Type 0
StandsIn sequenced end batches stop offset (BadBatch segment byte fault) = (stop ≡ NoBatch segment byte fault) × (offset ≡ records_in batches)
StandsIn sequenced end batches stop offset (Gap found) = (stop ≡ Elsewhere found) × (offset ≡ records_in batches)
StandsIn sequenced end batches stop offset (Pair fault producer) = StandsAtTouch sequenced batches offset fault producer
StandsIn sequenced end batches stop offset (End declared) =
    (stop ≡ AtEnd) × (pos (records_in batches) ≢ end) × (declared ≡ unsigned_abs end) × (offset ≡ records_in batches)
StandsIn sequenced end batches stop offset (OpenAtEnd producer) =
    (stop ≡ AtEnd) × IsOpen (last_touch producer batches) × (offset ≡ records_in batches)

-- the producer id that is named
abbrev pub producer_of : PartitionFaultKind → ℤ
producer_of (BadBatch segment byte fault) = pos 0
producer_of (Gap found) = pos 0
producer_of (Pair fault producer) = producer
producer_of (End declared) = pos 0
producer_of (OpenAtEnd producer) = producer

abbrev pub fault_cmp : PartitionFault → PartitionFault → Ordering
fault_cmp = then_cmp (on (λ f. f.offset) nat_cmp) (then_cmp (on (λ f. number_of f.kind) nat_cmp) (on (λ f. producer_of f.kind) int_cmp))

-- a fault of this partition
pub record IsStanding (topic : List ℕ) (number end : ℤ) (batches : List Batch) (stop : Stop) (fault : PartitionFault) : Type 0 where
  pub of_topic : fault.topic ≡ topic
  pub of_number : fault.partition ≡ number
  pub stands : StandsIn (not (is_internal topic)) end batches stop fault.offset fault.kind

-- the least fault that stands, or none does; sequences are not looked at in the internal topics
abbrev pub IsPartitionFault : List ℕ → ℤ → ℤ → List Batch → Stop → Option PartitionFault → Type 0
IsPartitionFault topic number end batches stop fault = IsLeastOrNone fault_cmp (IsStanding topic number end batches stop) fault

-- the segments of a partition
abbrev pub AreOf : List ℕ → ℤ → List Segment → Type 0
AreOf topic number segments = All (λ s. (s.topic ≡ topic) × (s.partition ≡ number)) segments
