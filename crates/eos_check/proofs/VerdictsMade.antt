-- Each phase's least fault is the least of all where no phase before has one.
use Rattle.std.proofs.Common.{List, refl}
use Rattle.eos_base.specs.Least.{UpTo, NoneStands, IsLeast}
use Rattle.eos_evidence.specs.Evidence.{EvidenceParts, IsEvidence}
use Rattle.eos_touch.specs.declared.fault.PartitionFault.{PartitionFault}
use Rattle.eos_fold.specs.Parts.{PartLog}
use Rattle.eos_verdict.specs.declared.log_fault.LogFault.{LogFault}
use Rattle.eos_verdict.specs.declared.match_fault.MatchFault.{MatchFault}
use Rattle.eos_table.specs.LogFaults as logs
use Rattle.eos_table.specs.MatchFaults as matches
use Rattle.eos_verdict.specs.declared.lineage_fault.LineageFault.{LineageFault}
use Rattle.eos_lineage.specs.Faults as lineage
use Rattle.eos_verdict.specs.declared.verdict.Fault.{Fault}
use Rattle.eos_verdict.specs.declared.verdict.Fault.TheVariants.{Partition as InPartition, Log, Match, Lineage}
use Rattle.eos_verdict.specs.declared.verdict.Counts.{Counts}
use Rattle.eos_verdict.specs.declared.verdict.Verdict.TheVariants.{Yes, No}
use Rattle.eos_commits.specs.EvidenceLogs.{AreLogsOf}
use Rattle.eos_check.specs.Verdicts.{StandsInPartitions, StandsInLog, StandsInMatching, Stands, partition_cmp, verdict_cmp, AreCounts, IsVerdictOf}
use Rattle.eos_check.proofs.GoodLaw.{law}

module _ (e : EvidenceParts) (ls : List PartLog) (of : AreLogsOf e.partitions ls) where
  pub no_partition : (f : PartitionFault) → IsLeast partition_cmp (StandsInPartitions e.partitions ls of) f → IsVerdictOf e ls of (No (InPartition f))
  no_partition f m = record { stands = m.stands; least = up_to }
    where
      up_to : (g : Fault) → Stands e ls of g → UpTo (verdict_cmp e.spec.apps) (InPartition f) g
      up_to (InPartition g) s = m.least g s
      up_to (Log g) s = refl
      up_to (Match g) s = refl
      up_to (Lineage g) s = refl

  pub no_log : (f : LogFault) → NoneStands (StandsInPartitions e.partitions ls of) → IsLeast logs.log_cmp (StandsInLog ls) f → IsVerdictOf e ls of (No (Log f))
  no_log f p m = record { stands = (p, m.stands); least = up_to }
    where
      up_to : (g : Fault) → Stands e ls of g → UpTo (verdict_cmp e.spec.apps) (Log f) g
      up_to (InPartition g) s = absurd (p g s)
      up_to (Log g) s = m.least g s.1
      up_to (Match g) s = refl
      up_to (Lineage g) s = refl

  pub no_match : (f : MatchFault) → NoneStands (StandsInPartitions e.partitions ls of) → NoneStands (StandsInLog ls) → IsLeast matches.fault_cmp (StandsInMatching ls) f
      → IsVerdictOf e ls of (No (Match f))
  no_match f p l m = record { stands = (p, l, m.stands); least = up_to }
    where
      up_to : (g : Fault) → Stands e ls of g → UpTo (verdict_cmp e.spec.apps) (Match f) g
      up_to (InPartition g) s = absurd (p g s)
      up_to (Log g) s = absurd (l g s.1)
      up_to (Match g) s = m.least g s.2
      up_to (Lineage g) s = refl

  pub no_lineage : (f : LineageFault) → NoneStands (StandsInPartitions e.partitions ls of) → NoneStands (StandsInLog ls) → NoneStands (StandsInMatching ls)
      → IsLeast (lineage.lineage_cmp e.spec.apps) (lineage.Stands e.spec.apps ls) f → IsVerdictOf e ls of (No (Lineage f))
  no_lineage f p l t m = record { stands = (p, l, t, m.stands); least = up_to }
    where
      up_to : (g : Fault) → Stands e ls of g → UpTo (verdict_cmp e.spec.apps) (Lineage f) g
      up_to (InPartition g) s = absurd (p g s)
      up_to (Log g) s = absurd (l g s.1)
      up_to (Match g) s = absurd (t g s.2)
      up_to (Lineage g) s = m.least g s.3

  pub yes : (c : Counts) → IsEvidence e → NoneStands (StandsInPartitions e.partitions ls of) → NoneStands (StandsInLog ls) → NoneStands (StandsInMatching ls)
      → NoneStands (lineage.Stands e.spec.apps ls) → AreCounts e.spec.apps ls c → IsVerdictOf e ls of (Yes c)
  yes c is p l t m counts = ((law e ls of is).1 none, counts)
    where
      none : (g : Fault) → Stands e ls of g → ⊥
      none (InPartition g) s = p g s
      none (Log g) s = l g s.1
      none (Match g) s = t g s.2
      none (Lineage g) s = m g s.3
