-- The verdict over any logs, whole or kept, as the phases answer it one after the other.
use Rattle.std.specs.Prelude.{◌≡◌, List, Option, Some, None}
use Rattle.eos_base.specs.Least.{NoneStands, IsLeast}
use Rattle.eos_evidence.specs.declared.application.App.{App}
use Rattle.eos_touch.specs.declared.fault.PartitionFault.{PartitionFault}
use Rattle.eos_fold.specs.Parts.{PartLog}
use Rattle.eos_commits.specs.Faults.{AreInOrder}
use Rattle.eos_table.specs.LogFaults.{log_cmp}
use Rattle.eos_table.specs.MatchFaults.{fault_cmp}
use Rattle.eos_lineage.specs.Faults as lineage
use Rattle.eos_verdict.specs.declared.verdict.Fault.TheVariants.{Partition as InPartition, Log, Match, Lineage}
use Rattle.eos_verdict.specs.declared.verdict.Verdict.{Verdict}
use Rattle.eos_verdict.specs.declared.verdict.Verdict.TheVariants.{Yes, No}
use Rattle.eos_check.specs.Verdicts.{StandsInLog, StandsInMatching, AreCounts}

-- over logs of which none has a fault by itself: the least fault of the first phase that has one, or how much was checked
abbrev pub IsVerdictOver : List App → List PartLog → Verdict → Type 0
IsVerdictOver apps ls (No (InPartition f)) = ⊥
IsVerdictOver apps ls (No (Log f)) = IsLeast log_cmp (StandsInLog ls) f
IsVerdictOver apps ls (No (Match f)) = NoneStands (StandsInLog ls) × IsLeast fault_cmp (StandsInMatching ls) f
IsVerdictOver apps ls (No (Lineage f)) =
    NoneStands (StandsInLog ls) × NoneStands (StandsInMatching ls) × IsLeast (lineage.lineage_cmp apps) (lineage.Stands apps ls) f
IsVerdictOver apps ls (Yes counts) =
    NoneStands (StandsInLog ls) × NoneStands (StandsInMatching ls) × NoneStands (lineage.Stands apps ls) × AreCounts apps ls counts

-- the first of the partitions' own faults, where there is one, else the verdict over the logs, which stand in order
abbrev pub IsJudged : List App → List PartLog → Option PartitionFault → Verdict → Type 0
IsJudged apps ls (Some f) verdict = verdict ≡ No (InPartition f)
IsJudged apps ls None verdict = AreInOrder ls → IsVerdictOver apps ls verdict
