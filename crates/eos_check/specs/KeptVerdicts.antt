-- The verdict over kept logs. Partitions by themselves are judged when they are read, and the phases behind look at what was
-- kept.
use Rattle.std.specs.Prelude.{◌↔◌, List}
use Rattle.eos_base.specs.Least.{NoneStands, IsLeast}
use Rattle.eos_evidence.specs.Evidence.{EvidenceParts}
use Rattle.eos_fold.specs.Parts.{PartLog}
use Rattle.eos_lineage.specs.Faults as lineage
use Rattle.eos_commits.specs.EvidenceLogs.{AreLogsOf}
use Rattle.eos_verdict.specs.declared.verdict.Fault.{Fault}
use Rattle.eos_verdict.specs.declared.verdict.Fault.TheVariants.{Partition as InPartition, Log, Match, Lineage}
use Rattle.eos_verdict.specs.declared.verdict.Verdict.{Verdict}
use Rattle.eos_verdict.specs.declared.verdict.Verdict.TheVariants.{Yes, No}
use Rattle.eos_check.specs.Verdicts.{StandsInPartitions, StandsInLog, StandsInMatching, verdict_cmp, AreCounts}
use Rattle.eos_reading.specs.Wanted.{wanted_logs}

-- what stands in the one stands in the other
abbrev pub StandAlike : {X : Type 0} → (X → Type 0) → (X → Type 0) → Type 0
StandAlike {X} Stands Other = (x : X) → Stands x ↔ Other x

-- of these logs what the evidence's applications want
abbrev pub kept_of : EvidenceParts → List PartLog → List PartLog
kept_of e logs = wanted_logs e.spec.apps logs

-- a fault of the first phase stands in the logs, one of another phase in what was kept of them
abbrev pub StandsKept : (e : EvidenceParts) (logs : List PartLog) → AreLogsOf e.partitions logs → Fault → Type 0
StandsKept e logs of (InPartition f) = StandsInPartitions e.partitions logs of f
StandsKept e logs of (Log f) = NoneStands (StandsInPartitions e.partitions logs of) × StandsInLog (kept_of e logs) f
StandsKept e logs of (Match f) =
    NoneStands (StandsInPartitions e.partitions logs of) × NoneStands (StandsInLog (kept_of e logs)) × StandsInMatching (kept_of e logs) f
StandsKept e logs of (Lineage f) =
    NoneStands (StandsInPartitions e.partitions logs of) × NoneStands (StandsInLog (kept_of e logs)) × NoneStands (StandsInMatching (kept_of e logs))
    × lineage.Stands e.spec.apps (kept_of e logs) f

-- the counts where no fault stands, else the least one
abbrev pub IsKeptVerdict : (e : EvidenceParts) (logs : List PartLog) → AreLogsOf e.partitions logs → Verdict → Type 0
IsKeptVerdict e logs of (Yes counts) = NoneStands (StandsKept e logs of) × AreCounts e.spec.apps (kept_of e logs) counts
IsKeptVerdict e logs of (No fault) = IsLeast (verdict_cmp e.spec.apps) (StandsKept e logs of) fault
