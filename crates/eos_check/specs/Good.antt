-- What it means that the promise of exactly once was kept in an evidence: for each partition the segments of its log, with the
-- offset after its last record. The logs are what the segments' batches say.
-- Sources: KIP-98 (idempotent and transactional producers), KIP-447 (offsets committed with the outputs), KIP-890 (an epoch a
-- transaction).
use Rattle.std.specs.Prelude.{List, [], ◌∷◌, ⊤}
use Rattle.eos_batch.specs.declared.batch.Batch.{Batch}
use Rattle.eos_evidence.specs.declared.partition.Partition.{Partition}
use Rattle.eos_evidence.specs.Evidence.{EvidenceParts}
use Rattle.eos_fold.specs.Parts.{PartLog}
use Rattle.eos_fold.specs.Whole.{IsReadFrom}
use Rattle.eos_table.specs.TransactionLog.{IsTransactionLog, transaction_parts, decisions_of}
use Rattle.eos_table.specs.Atomic.{Atomic}
use Rattle.eos_lineage.specs.Lineage.{LineageKept}
use Rattle.eos_check.specs.PartitionRules.{KeepsRules}

-- the log of this partition, whose batches are whole, sequenced and fenced
pub record IsKeptLog (p : Partition) (log : PartLog) : Type 0 where
  pub batches : List Batch
  pub read : IsReadFrom p.end.topic p.end.partition p.end.end p.segments batches log
  pub rules : KeepsRules p.end.topic p.end.end p.segments batches

-- the logs of these partitions, in order
abbrev pub AreKeptLogs : List Partition → List PartLog → Type 0
AreKeptLogs [] [] = ⊤
AreKeptLogs [] (l ∷ ls) = ⊥
AreKeptLogs (p ∷ ps) [] = ⊥
AreKeptLogs (p ∷ ps) (l ∷ ls) = IsKeptLog p l × AreKeptLogs ps ls

pub record Good (e : EvidenceParts) (logs : List PartLog) : Type 0 where
  -- the logs are whole and fenced, and no sequence is repeated or missing in a producer epoch
  pub partitions : AreKeptLogs e.partitions logs
  -- the transaction log reads and keeps the steps of its transactional ids
  pub transaction_log : IsTransactionLog (transaction_parts logs)
  -- every transaction is committed in all its partitions or aborted in all
  pub atomic : Atomic (decisions_of (transaction_parts logs)) logs
  -- the offsets log reads; the visible outputs are, for each input below its group's committed offset, its numbered outputs or
  -- one note, each once, from transactions that committed past it, and nothing else
  pub lineage : LineageKept e.spec.apps logs
