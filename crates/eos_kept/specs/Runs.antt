-- What a run of a partition's batches says, kept without their records: of each data batch its head, of each producer id the
-- ends of its touches, and the least fault that the run settles. It is the summary of the same batches, less the records.
use Rattle.std.specs.Prelude.{◌≡◌, ℕ, ℤ, List, map}
use Rattle.eos_batch.specs.declared.batch.Batch.{Batch}
use Rattle.eos_batch.specs.declared.head.BatchHead.{BatchHead}
use Rattle.eos_batch.specs.Heads.{head_of}
use Rattle.eos_batch.specs.Rules.{IsProducerRight}
use Rattle.eos_fold.specs.Batches.{DataBatch}
use Rattle.eos_fold.specs.Heads.{DataHead, data_head}
use Rattle.eos_fold.specs.Settling.{data_in}
use Rattle.eos_fold.specs.Tables.{ends_at}
use Rattle.eos_fold.specs.Summaries.{BatchSummary, IsSummary, SameEnds}
use Rattle.eos_kept.specs.declared.run.Run.{Run}

abbrev pub heads_of : List DataBatch → List DataHead
heads_of ds = map data_head ds

-- the summary that says the same of these data batches
abbrev pub summary_with : List DataBatch → Run → BatchSummary
summary_with ds run = record {
  sequenced = run.sequenced;
  batches = ds;
  producers = run.producers;
  fault = run.fault;
}

-- the run of these batches: their summary, of whose data batches only the heads are kept
pub record IsRunOf (batches : List Batch) (run : Run) : Type 0 where
  pub heads : run.heads.list ≡ heads_of (data_in batches)
  pub known : IsSummary batches (summary_with (data_in batches) run)

-- the run of some batches
abbrev pub IsRun : Run → Type 0
IsRun run = (batches : List Batch) × IsRunOf batches run

-- the same is known; there may be more room
pub record SameRun (r s : Run) : Type 0 where
  pub sequenced : s.sequenced ≡ r.sequenced
  pub heads : s.heads.list ≡ r.heads.list
  pub ends : (id : ℤ) → SameEnds (ends_at r.producers id) (ends_at s.producers id)
  pub fault : s.fault ≡ r.fault

-- the head of a batch of so many bytes, as reading gives it
pub record IsHeadOf (b : Batch) (head : BatchHead) : Type 0 where
  pub size : ℕ
  pub is : head ≡ head_of b size
  pub right : IsProducerRight b
