-- An evidence is good exactly where no fault of any phase stands.
use Rattle.std.proofs.Common.{◌≡◌, ◌↔◌, List, [], ◌∷◌, sym, subst, inl, inr}
use Rattle.eos_base.specs.Least.{NoneStands}
use Rattle.eos_batch.specs.declared.batch.Batch.{Batch}
use Rattle.eos_evidence.specs.declared.partition.Partition.{Partition}
use Rattle.eos_evidence.specs.Evidence.{EvidenceParts, IsEvidence}
use Rattle.eos_fold.specs.Parts.{PartLog}
use Rattle.eos_table.specs.TransactionLog.{transaction_parts, decisions_of}
use Rattle.eos_table.proofs.LogLaw.{law as log_law}
use Rattle.eos_table.proofs.AtomicLaw.{law as atomic_law}
use Rattle.eos_lineage.proofs.LineageLaw.{law as lineage_law}
use Rattle.eos_verdict.specs.declared.verdict.Fault.TheVariants.{Partition as InPartition, Log, Match, Lineage}
use Rattle.eos_commits.specs.EvidenceLogs.{IsLogOf, AreLogsOf}
use Rattle.eos_check.specs.PartitionRules.{KeepsRules}
use Rattle.eos_check.specs.Good.{IsKeptLog, AreKeptLogs, Good}
use Rattle.eos_check.specs.Verdicts.{StandsInPartitions, StandsInLog, StandsInMatching, Stands}
use Rattle.eos_check.proofs.RulesLaw.{law as rules_law}
use Rattle.eos_check.proofs.WholeTexts.{same_front}
use Rattle.eos_commits.proofs.LogsInOrder.{in_order}
use Rattle.eos_check.proofs.TransactionLogInOrder.{log_in_order}

-- the rules are kept by the batches of the front
rules_of : (p : Partition) (l : PartLog) (of : IsLogOf p l) → IsKeptLog p l → KeepsRules p.end.topic p.end.end p.segments of.batches
rules_of p l of h =
    let same : of.batches ≡ h.batches = (same_front p.segments h.batches of.batches of.stop of.front h.rules.whole.texts).1 in
    subst (λ (bs : List Batch). KeepsRules p.end.topic p.end.end p.segments bs) (sym same) h.rules

pub none_from : (ps : List Partition) (ls : List PartLog) (of : AreLogsOf ps ls) → AreKeptLogs ps ls → NoneStands (StandsInPartitions ps ls of)
none_from [] [] of h f s = s
none_from [] (l ∷ ls) of h f s = s
none_from (p ∷ ps) [] of h f s = s
none_from (p ∷ ps) (l ∷ ls) of h f (inl s) =
    (rules_law p.end.topic p.end.partition p.end.end p.segments of.0.batches of.0.stop of.0.front).1 (rules_of p l of.0 h.0) f s
none_from (p ∷ ps) (l ∷ ls) of h f (inr s) = none_from ps ls of.1 h.1 f s

pub kept_from : (ps : List Partition) (ls : List PartLog) (of : AreLogsOf ps ls) → NoneStands (StandsInPartitions ps ls of) → AreKeptLogs ps ls
kept_from [] [] of h = tt
kept_from [] (l ∷ ls) of h = of
kept_from (p ∷ ps) [] of h = of
kept_from (p ∷ ps) (l ∷ ls) of h = (
  record {
    batches = of.0.batches;
    read = of.0.log;
    rules = (rules_law p.end.topic p.end.partition p.end.end p.segments of.0.batches of.0.stop of.0.front).0 (λ f s. h f (inl s));
  },
  kept_from ps ls of.1 (λ f s. h f (inr s)),
)

pub law : (e : EvidenceParts) (ls : List PartLog) (of : AreLogsOf e.partitions ls) → IsEvidence e → Good e ls ↔ NoneStands (Stands e ls of)
law e ls of is = (forward, backward)
  where
    forward : Good e ls → NoneStands (Stands e ls of)
    forward good (InPartition f) s = none_from e.partitions ls of good.partitions f s
    forward good (Log f) s = (log_law (transaction_parts ls) (log_in_order ls (in_order e ls is of))).0 good.transaction_log f s.1
    forward good (Match f) s = (atomic_law (decisions_of (transaction_parts ls)) ls).0 good.atomic f s.2
    forward good (Lineage f) s = (lineage_law e.spec.apps ls).0 good.lineage f s.3

    backward : NoneStands (Stands e ls of) → Good e ls
    backward none =
        let p : NoneStands (StandsInPartitions e.partitions ls of) = λ f s. none (InPartition f) s in
        let l : NoneStands (StandsInLog ls) = λ f s. none (Log f) (p, s) in
        let m : NoneStands (StandsInMatching ls) = λ f s. none (Match f) (p, l, s) in
        record {
          partitions = kept_from e.partitions ls of p;
          transaction_log = (log_law (transaction_parts ls) (log_in_order ls (in_order e ls is of))).1 l;
          atomic = (atomic_law (decisions_of (transaction_parts ls)) ls).1 m;
          lineage = (lineage_law e.spec.apps ls).1 (λ f s. none (Lineage f) (p, l, m, s));
        }
