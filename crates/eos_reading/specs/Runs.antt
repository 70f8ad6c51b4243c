-- The batches at the front of a buffer were read.
use Rattle.std.specs.Prelude.{◌≡◌, ◌≢◌, ◌≤◌, ℕ, List, ◌++◌, length, drop, Err}
use Rattle.eos_batch.specs.declared.batch.Batch.{Batch}
use Rattle.eos_batch.specs.declared.head.BatchHead.{BatchHead}
use Rattle.eos_batch.specs.declared.record.Record.{Record}
use Rattle.eos_batch.specs.declared.fault.BatchFault.{BatchFault}
use Rattle.eos_batch.specs.declared.fault.BatchFault.TheVariants as faults
use Rattle.eos_batch.specs.Reading.{batch_at}
use Rattle.eos_reading.specs.Heads.{HasHeads}
use Rattle.eos_reading.specs.Kept.{kept_of}

-- the heads of these batches and what is kept of them were put at the end, and at this byte there is no batch for this fault
pub record IsRun {K : Type 0} (keep : ℕ → Record → K) (bytes : List ℕ) (heads heads' : List BatchHead) (kept kept' : List K) (at : ℕ) (fault : BatchFault) : Type 0 where
  pub batches : List Batch
  pub more : List BatchHead
  pub reads : HasHeads bytes batches more (drop at bytes)
  pub within : at ≤ length bytes
  pub heads_are : heads' ≡ heads ++ more
  pub kept_is : kept' ≡ kept ++ kept_of keep batches
  pub ends : batch_at (drop at bytes) ≡ Err fault
  pub real : fault ≢ faults.OutOfMemory
