-- What contracts see of a fold over a log's batches, as far as the log was fed and at its end.
use Rattle.std.specs.Prelude.{◌≡◌, ◌≢◌, ◌+◌, ◌<◌, ◌^◌, ℕ, List, length, Option, Err}
use Rattle.eos_batch.specs.declared.batch.Batch.{Batch}
use Rattle.eos_batch.specs.declared.head.BatchHead.{BatchHead}
use Rattle.eos_batch.specs.declared.record.Record.{Record}
use Rattle.eos_batch.specs.declared.fault.BatchFault.{BatchFault}
use Rattle.eos_batch.specs.declared.fault.BatchFault.TheVariants as faults
use Rattle.eos_batch.specs.Reading.{batch_at}
use Rattle.eos_batch.specs.Segment.{StopsAt}
use Rattle.eos_reading.specs.Heads.{HasHeads}
use Rattle.eos_reading.specs.Kept.{kept_of}

-- the heads of the batches so far, what is kept of their records, the byte after them, why no batch stands there, and how many
-- bytes were taken
pub record FedView (K : Type 0) : Type 0 where
  pub heads : List BatchHead
  pub kept : List K
  pub place : ℕ
  pub fault : BatchFault
  pub taken : ℕ

-- The fold of a log of which these bytes were fed: its state is that of all of them, wherever they were cut. Where bytes may
-- follow, those after the last batch wait; where none stands there, whatever follows, none need to.
pub record IsFed {K : Type 0} (keep : ℕ → Record → K) (fed waiting : List ℕ) (v : FedView K) : Type 0 where
  pub batches : List Batch
  pub rest : List ℕ
  pub heads_are : HasHeads fed batches v.heads rest
  pub place_is : v.place + length rest ≡ length fed
  pub kept_is : v.kept ≡ kept_of keep batches
  pub ends : batch_at rest ≡ Err v.fault
  pub real : v.fault ≢ faults.OutOfMemory
  pub waits : v.fault ≡ faults.Truncated → waiting ≡ rest
  pub taken_is : v.taken + length waiting ≡ length fed

-- the heads of a log's batches, what is kept of their records, where the log stops before its end, and how many bytes it has
pub record WholeView (K : Type 0) : Type 0 where
  pub heads : List BatchHead
  pub kept : List K
  pub stop : Option (ℕ × BatchFault)
  pub bytes : ℕ

-- what the log of these bytes gives; a u64 holds how many there are
pub record IsWhole {K : Type 0} (keep : ℕ → Record → K) (bytes : List ℕ) (v : WholeView K) : Type 0 where
  pub batches : List Batch
  pub rest : List ℕ
  pub heads_are : HasHeads bytes batches v.heads rest
  pub stops : StopsAt bytes rest v.stop
  pub kept_is : v.kept ≡ kept_of keep batches
  pub sized : length bytes < 2 ^ 64 → v.bytes ≡ length bytes
