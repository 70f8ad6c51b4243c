-- The steps of keeping: the records of a batch, and a batch.
use Rattle.std.specs.Prelude.{◌≡◌, ℕ, List, ◌++◌, drop, Result, Ok}
use Rattle.eos_batch.specs.declared.batch.Batch.{Batch}
use Rattle.eos_batch.specs.declared.head.BatchHead.{BatchHead}
use Rattle.eos_batch.specs.declared.record.Record.{Record}
use Rattle.eos_batch.specs.declared.fault.BatchFault.{BatchFault}
use Rattle.eos_batch.specs.Heads.{head_of}
use Rattle.eos_batch.specs.Reading.{batch_at}
use Rattle.eos_reading.specs.Kept.{kept_from, kept_in}

-- what is kept of the records that reading gives stands at the end
abbrev pub Keeps : {K : Type 0} → (ℕ → Record → K) → ℕ → List K → List K → Result (List Record) BatchFault → Type 0
Keeps keep offset before after read = (rs : List Record) × (read ≡ Ok rs) × (after ≡ before ++ kept_from keep offset rs)

abbrev pub Grows : {K : Type 0} → List K → List K → Type 0
Grows {K} before after = (more : List K) × (after ≡ before ++ more)

-- the batch at this byte, of whose data records was kept what is wanted
pub record IsKept {K : Type 0} (keep : ℕ → Record → K) (bytes : List ℕ) (at : ℕ) (before after : List K) (head : BatchHead) : Type 0 where
  pub batch : Batch
  pub reads : batch_at (drop at bytes) ≡ Ok (batch, head.size)
  pub head_is : head ≡ head_of batch head.size
  pub kept : after ≡ before ++ kept_in keep batch
