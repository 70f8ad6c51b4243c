-- The verdict: yes with three counts where the evidence is good, else no with the first fault. The faults of a phase stand only
-- where none of the phases before does.
use Rattle.std.specs.Prelude.{◌≡◌, ◌⊎◌, List, [], ◌∷◌, length}
use Rattle.std.specs.Ordering.{on, then_cmp}
use Rattle.std.specs.declared.cmp.Ordering.{Ordering}
use Rattle.std.specs.declared.cmp.Ordering.TheVariants.{Less, Greater}
use Rattle.eos_base.specs.Least.{NoneStands, IsLeast}
use Rattle.eos_base.specs.PartitionNames.{name_cmp}
use Rattle.eos_evidence.specs.declared.partition.Partition.{Partition}
use Rattle.eos_evidence.specs.declared.application.App.{App}
use Rattle.eos_evidence.specs.Evidence.{EvidenceParts}
use Rattle.eos_touch.specs.declared.fault.PartitionFault.{PartitionFault}
use Rattle.eos_fold.specs.Parts.{PartLog}
use Rattle.eos_fold.specs.Standing as folds
use Rattle.eos_verdict.specs.declared.log_fault.LogFault.{LogFault}
use Rattle.eos_verdict.specs.declared.match_fault.MatchFault.{MatchFault}
use Rattle.eos_table.specs.TransactionLog.{transaction_parts, decisions_of}
use Rattle.eos_table.specs.LogFaults as logs
use Rattle.eos_table.specs.MatchFaults as matches
use Rattle.eos_lineage.specs.Faults as lineage
use Rattle.eos_lineage.specs.Lineage.{count_inputs, count_outputs}
use Rattle.eos_verdict.specs.declared.verdict.Fault.{Fault}
use Rattle.eos_verdict.specs.declared.verdict.Fault.TheVariants.{Partition as InPartition, Log, Match, Lineage}
use Rattle.eos_verdict.specs.declared.verdict.Verdict.{Verdict}
use Rattle.eos_verdict.specs.declared.verdict.Verdict.TheVariants.{Yes, No}
use Rattle.eos_verdict.specs.declared.verdict.Counts.{Counts}
use Rattle.eos_commits.specs.EvidenceLogs.{AreLogsOf}
use Rattle.eos_check.specs.Good.{Good}

-- ---- the phases

-- phase 1: a fault of one of the partitions by itself
abbrev pub StandsInPartitions : (ps : List Partition) (ls : List PartLog) → AreLogsOf ps ls → PartitionFault → Type 0
StandsInPartitions [] [] of f = ⊥
StandsInPartitions [] (l ∷ ls) of f = ⊥
StandsInPartitions (p ∷ ps) [] of f = ⊥
StandsInPartitions (p ∷ ps) (l ∷ ls) of f =
    folds.IsStanding p.end.topic p.end.partition p.end.end of.0.batches of.0.stop f ⊎ StandsInPartitions ps ls of.1 f

-- phase 2
abbrev pub StandsInLog : List PartLog → LogFault → Type 0
StandsInLog ls f = logs.Stands (transaction_parts ls) f

-- phase 3
abbrev pub StandsInMatching : List PartLog → MatchFault → Type 0
StandsInMatching ls f = matches.Stands (decisions_of (transaction_parts ls)) ls f

-- phases 4 and 5 are ordered by themselves
abbrev pub Stands : (e : EvidenceParts) (ls : List PartLog) → AreLogsOf e.partitions ls → Fault → Type 0
Stands e ls of (InPartition f) = StandsInPartitions e.partitions ls of f
Stands e ls of (Log f) = NoneStands (StandsInPartitions e.partitions ls of) × StandsInLog ls f
Stands e ls of (Match f) = NoneStands (StandsInPartitions e.partitions ls of) × NoneStands (StandsInLog ls) × StandsInMatching ls f
Stands e ls of (Lineage f) =
    NoneStands (StandsInPartitions e.partitions ls of) × NoneStands (StandsInLog ls) × NoneStands (StandsInMatching ls) × lineage.Stands e.spec.apps ls f

-- ---- their order: by phase, and in each phase by its own

abbrev pub name_in : PartitionFault → Rattle.eos_base.specs.declared.partition_name.PartitionName.PartitionName
name_in f = record { topic = f.topic; partition = f.partition }

-- by partition, then as a partition's are ordered
abbrev pub partition_cmp : PartitionFault → PartitionFault → Ordering
partition_cmp = then_cmp (on name_in name_cmp) folds.fault_cmp

abbrev pub verdict_cmp : List App → Fault → Fault → Ordering
verdict_cmp apps (InPartition f) (InPartition g) = partition_cmp f g
verdict_cmp apps (InPartition f) (Log g) = Less
verdict_cmp apps (InPartition f) (Match g) = Less
verdict_cmp apps (InPartition f) (Lineage g) = Less
verdict_cmp apps (Log f) (InPartition g) = Greater
verdict_cmp apps (Log f) (Log g) = logs.log_cmp f g
verdict_cmp apps (Log f) (Match g) = Less
verdict_cmp apps (Log f) (Lineage g) = Less
verdict_cmp apps (Match f) (InPartition g) = Greater
verdict_cmp apps (Match f) (Log g) = Greater
verdict_cmp apps (Match f) (Match g) = matches.fault_cmp f g
verdict_cmp apps (Match f) (Lineage g) = Less
verdict_cmp apps (Lineage f) (InPartition g) = Greater
verdict_cmp apps (Lineage f) (Log g) = Greater
verdict_cmp apps (Lineage f) (Match g) = Greater
verdict_cmp apps (Lineage f) (Lineage g) = lineage.lineage_cmp apps f g

-- ---- the verdict

pub record AreCounts (apps : List App) (ls : List PartLog) (c : Counts) : Type 0 where
  pub transactions : c.transactions ≡ length (decisions_of (transaction_parts ls))
  pub inputs : c.inputs ≡ count_inputs apps ls
  pub outputs : c.outputs ≡ count_outputs apps ls

-- of the evidence whose logs these are
abbrev pub IsVerdictOf : (e : EvidenceParts) (ls : List PartLog) → AreLogsOf e.partitions ls → Verdict → Type 0
IsVerdictOf e ls of (Yes counts) = Good e ls × AreCounts e.spec.apps ls counts
IsVerdictOf e ls of (No fault) = IsLeast (verdict_cmp e.spec.apps) (Stands e ls of) fault

abbrev pub IsVerdict : EvidenceParts → Verdict → Type 0
IsVerdict e verdict = (logs : List PartLog) × (of : AreLogsOf e.partitions logs) × IsVerdictOf e logs of verdict
