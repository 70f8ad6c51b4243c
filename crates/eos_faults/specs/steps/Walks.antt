-- What a walk along the front of a partition's segments keeps of the batches that it has passed.
use Rattle.std.specs.Prelude.{◌≡◌, ℕ, ℤ, Bool, true, List, [], ◌++◌, drop, is_some}
use Rattle.std.specs.Ordering.{int_cmp}
use Rattle.std.specs.BTreeMap.{BTreeMap, get}
use Rattle.eos_base.specs.Members.{Has}
use Rattle.eos_batch.specs.declared.batch.Batch.{Batch}
use Rattle.eos_evidence.specs.declared.segment.Segment.{Segment}
use Rattle.eos_touch.specs.declared.touch.Touch.{Touch}
use Rattle.eos_touch.specs.Touches.{last_touch}
use Rattle.eos_touch.specs.Front.{records_in}
use Rattle.eos_fold.specs.declared.stop.Stop.{Stop}
use Rattle.eos_fold.specs.Fronts.{IsSegmentFront, IsFront}
use Rattle.eos_faults.specs.declared.walk.Walk.{Walk}
use Rattle.eos_faults.specs.PartitionPlaces.{at_batches}

-- each producer id of the table is in the list
abbrev pub AreIdsOf : BTreeMap ℤ Touch → List ℤ → Type 0
AreIdsOf last ids = (id : ℤ) → is_some (get int_cmp last id) ≡ true → Has ids id

-- these batches were passed
pub record HasPassed (sequenced : Bool) (front : List Batch) (walk : Walk) : Type 0 where
  pub checks : walk.is_sequenced ≡ sequenced
  pub next : walk.next ≡ records_in front
  pub touches : (id : ℤ) → get int_cmp walk.last id ≡ last_touch id front
  pub ids : AreIdsOf walk.last walk.ids.items
  pub shown : walk.shown.items ≡ at_batches sequenced [] front

-- a segment up to its end, or up to where the front ends
pub record HasPassedSegment (sequenced : Bool) (front : List Batch) (bytes : List ℕ) (walk : Walk) (stop : Stop) : Type 0 where
  pub inside : List Batch
  pub segment : IsSegmentFront (records_in front) bytes inside stop
  pub passed : HasPassed sequenced (front ++ inside) walk

-- the first segments, so many of them, are of the front to their ends
pub record HasPassedAll (sequenced : Bool) (segments : List Segment) (count : ℕ) (walk : Walk) : Type 0 where
  pub front : List Batch
  pub goes_on : (others : List Batch) (stop : Stop) → IsFront (records_in front) (drop count segments) others stop → IsFront 0 segments (front ++ others) stop
  pub passed : HasPassed sequenced front walk

-- all of the front
pub record HasWalked (sequenced : Bool) (segments : List Segment) (walk : Walk) (stop : Stop) : Type 0 where
  pub batches : List Batch
  pub front : IsFront 0 segments batches stop
  pub passed : HasPassed sequenced batches walk
