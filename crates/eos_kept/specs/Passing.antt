-- A front that takes batches one after the other, each by its head, and what is kept of their data records.
use Rattle.std.specs.Prelude.{◌≡◌, ℕ, ◌+◌, List, [], ◌∷◌, length, if◌then◌else◌}
use Rattle.eos_batch.specs.declared.batch.Batch.{Batch}
use Rattle.eos_batch.specs.declared.head.BatchHead.{BatchHead}
use Rattle.eos_batch.specs.Attributes.{is_control}
use Rattle.eos_batch.specs.Rules.{IsCounted}
use Rattle.eos_touch.specs.Front.{ContinuesFrom}
use Rattle.eos_kept.specs.Runs.{IsHeadOf}
use Rattle.eos_kept.specs.declared.front.Front.{Front}
use Rattle.eos_kept.specs.Kept.{KeepsFront}

-- the head of a batch whose offsets fit
pub record IsRealHead (b : Batch) (head : BatchHead) : Type 0 where
  pub of : IsHeadOf b head
  pub counted : IsCounted b

-- a front that goes on from its name
pub record GoesAlong (batches : List Batch) (f : Front) : Type 0 where
  pub keeps : KeepsFront batches f
  pub continuous : ContinuesFrom f.begin batches

-- the number of data records
abbrev pub data_count : List Batch → ℕ
data_count [] = 0
data_count (b ∷ bs) = (if is_control b.attributes then 0 else length b.records) + data_count bs

-- the front takes some batches one after the other, and of each of their data records a value is kept
pub record HoldsEach {K : Type 0} (f : Front) (kept : List K) : Type 0 where
  pub batches : List Batch
  pub along : GoesAlong batches f
  pub each : length kept ≡ data_count batches
