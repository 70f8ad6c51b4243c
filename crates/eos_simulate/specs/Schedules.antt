-- The theorem on every schedule, in the words of the verdict: whatever happens to an honest cluster, in whatever order, the
-- evidence of its logs at rest is right in all that the checker asks of logs. It says nothing of real brokers, nor that a
-- cluster ever comes to rest.
-- Sources: KIP-98 (sequences, fencing, the coordinator), KIP-890 (the end of a transaction raises the epoch).
use Rattle.std.specs.Prelude.{List, ⊤}
use Rattle.eos_base.specs.Least.{NoneStands}
use Rattle.eos_evidence.specs.Evidence.{EvidenceParts}
use Rattle.eos_fold.specs.Parts.{PartLog}
use Rattle.eos_table.specs.TransactionLog.{IsTransactionLog, transaction_parts, decisions_of}
use Rattle.eos_table.specs.Atomic.{Atomic}
use Rattle.eos_commits.specs.EvidenceLogs.{AreLogsOf}
use Rattle.eos_check.specs.Good.{AreKeptLogs}
use Rattle.eos_check.specs.Verdicts.{StandsInPartitions, StandsInLog, StandsInMatching}
use Rattle.eos_verdict.specs.declared.verdict.Fault.{Fault}
use Rattle.eos_verdict.specs.declared.verdict.Fault.TheVariants.{Partition as InPartition, Log, Match, Lineage}
use Rattle.eos_verdict.specs.declared.verdict.Verdict.{Verdict}
use Rattle.eos_verdict.specs.declared.verdict.Verdict.TheVariants.{Yes, No}

-- all that the checker asks of logs, but for what their outputs say
pub record AreRight (e : EvidenceParts) (logs : List PartLog) : Type 0 where
  -- each partition's log is whole, sequenced and fenced
  pub partitions : AreKeptLogs e.partitions logs
  -- the transaction log reads, keeps the steps of its transactional ids, and leaves no transaction going on
  pub transaction_log : IsTransactionLog (transaction_parts logs)
  -- every transaction is committed in all its partitions or aborted in all
  pub atomic : Atomic (decisions_of (transaction_parts logs)) logs

-- no fault of the first three phases stands
pub record HaveNoFault (e : EvidenceParts) (logs : List PartLog) (of : AreLogsOf e.partitions logs) : Type 0 where
  pub in_partitions : NoneStands (StandsInPartitions e.partitions logs of)
  pub in_log : NoneStands (StandsInLog logs)
  pub in_matching : NoneStands (StandsInMatching logs)

-- whatever logs are read out of the evidence
abbrev pub HasRightLogs : EvidenceParts → Type 0
HasRightLogs e = (logs : List PartLog) (of : AreLogsOf e.partitions logs) → AreRight e logs

abbrev pub HasNoFaultInLogs : EvidenceParts → Type 0
HasNoFaultInLogs e = (logs : List PartLog) (of : AreLogsOf e.partitions logs) → HaveNoFault e logs of

-- the verdict is yes, or names a fault of what the outputs say
abbrev pub IsOfOutputs : Fault → Type 0
IsOfOutputs (InPartition f) = ⊥
IsOfOutputs (Log f) = ⊥
IsOfOutputs (Match f) = ⊥
IsOfOutputs (Lineage f) = ⊤

abbrev pub AccusesNoLog : Verdict → Type 0
AccusesNoLog (Yes counts) = ⊤
AccusesNoLog (No fault) = IsOfOutputs fault
