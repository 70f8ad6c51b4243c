-- What a walk is that was fed with the first bytes of a segment, the last of which wait for more.
use Rattle.std.specs.Prelude.{◌≡◌, ℕ, ◌+◌, List, ◌++◌, length, Option, Some, None, Err}
use Rattle.eos_batch.specs.declared.batch.Batch.{Batch}
use Rattle.eos_batch.specs.declared.fault.BatchFault.TheVariants.{Truncated}
use Rattle.eos_batch.specs.declared.head.BatchHead.{BatchHead}
use Rattle.eos_batch.specs.Reading.{batch_at}
use Rattle.eos_batch.specs.Segment.{Splits}
use Rattle.eos_touch.specs.declared.fault.PartitionFault.{PartitionFault}
use Rattle.eos_segment.specs.declared.fed.FedWalk.{FedWalk}
use Rattle.eos_segment.specs.declared.chain_walk.Walk.{Walk}
use Rattle.eos_reading.specs.Heads.{HasHeads}
use Rattle.eos_segment.specs.ChainFaults.{IsLeastFault}
use Rattle.eos_segment.specs.steps.Walks.{HasPassed}

-- it has passed these batches, and after them no whole batch stands yet
pub record IsGoing (fed rest : List ℕ) (walk : Walk) : Type 0 where
  pub before : List Batch
  pub passed : HasPassed before walk
  pub texts : Splits fed before rest
  pub cut : batch_at rest ≡ Err Truncated

-- the least fault of the segment, whatever bytes follow
abbrev pub IsBroken : List ℕ → PartitionFault → Type 0
IsBroken fed fault = (more : List ℕ) → IsLeastFault (fed ++ more) fault

abbrev pub EndsAt : List ℕ → List ℕ → Walk → Option PartitionFault → Type 0
EndsAt fed rest walk None = IsGoing fed rest walk
EndsAt fed rest walk (Some fault) = IsBroken fed fault

pub record IsFed (fed waiting : List ℕ) (w : FedWalk) : Type 0 where
  pub ends : EndsAt fed waiting w.walk w.fault
  pub place : w.fault ≡ None → w.place + length waiting ≡ length fed

-- ---- batches that were read

-- batches of these heads stand behind those that it has passed, and before the rest
pub record IsBefore (fed rest : List ℕ) (heads : List BatchHead) (walk : Walk) : Type 0 where
  pub before : List Batch
  pub passed : HasPassed before walk
  pub bytes : List ℕ
  pub texts : Splits fed before bytes
  pub batches : List Batch
  pub heads_are : HasHeads bytes batches heads rest

-- all before the rest were passed, or the least fault is found
abbrev pub PassesTo : List ℕ → List ℕ → Walk → Option PartitionFault → Type 0
PassesTo fed rest walk None = (all : List Batch) × HasPassed all walk × Splits fed all rest
PassesTo fed rest walk (Some fault) = IsBroken fed fault
