-- The verdict over what is kept is the verdict.
use Rattle.std.proofs.Common.{◌≡◌, ◌↔◌, List, Option, Some, None, sym, ap, ◌∙◌, subst, length}
use Rattle.eos_base.specs.Least.{NoneStands, IsLeast, IsLeastOrNone}
use Rattle.eos_evidence.specs.Evidence.{EvidenceParts, IsEvidence}
use Rattle.eos_touch.specs.declared.fault.PartitionFault.{PartitionFault}
use Rattle.eos_fold.specs.Parts.{PartLog}
use Rattle.eos_kept.specs.Faults.{AreFaultsIn, first_of}
use Rattle.eos_txnlog.specs.declared.decision.Decision.{Decision}
use Rattle.eos_verdict.specs.declared.log_fault.LogFault.{LogFault}
use Rattle.eos_verdict.specs.declared.match_fault.MatchFault.{MatchFault}
use Rattle.eos_table.specs.TransactionLog.{transaction_parts, decisions_of}
use Rattle.eos_table.specs.LogFaults as logs
use Rattle.eos_table.specs.MatchFaults as matches
use Rattle.eos_verdict.specs.declared.lineage_fault.LineageFault.{LineageFault}
use Rattle.eos_lineage.specs.Faults as lineage
use Rattle.eos_commits.specs.EvidenceLogs.{AreLogsOf}
use Rattle.eos_verdict.specs.declared.verdict.Fault.TheVariants.{Partition as InPartition, Log, Match, Lineage}
use Rattle.eos_verdict.specs.declared.verdict.Counts.{Counts}
use Rattle.eos_verdict.specs.declared.verdict.Verdict.{Verdict}
use Rattle.eos_verdict.specs.declared.verdict.Verdict.TheVariants.{Yes, No}
use Rattle.eos_check.specs.Verdicts.{StandsInPartitions, StandsInLog, StandsInMatching, Stands, partition_cmp, verdict_cmp, AreCounts, IsVerdictOf}
use Rattle.eos_check.specs.Judged.{IsVerdictOver, IsJudged}
use Rattle.eos_commits.proofs.LogsInOrder.{in_order}
use Rattle.eos_check.proofs.GoodLaw.{law as good_law}
use Rattle.eos_check.proofs.NamedFaults.{least_named}
use Rattle.eos_check.proofs.VerdictsMade.{no_partition, no_log, no_match, no_lineage, yes}
use Rattle.eos_check.specs.KeptVerdicts.{StandAlike, kept_of, StandsKept, IsKeptVerdict}
use Rattle.eos_check.proofs.KeptOrder.{all_kept}
use Rattle.eos_check.proofs.StandingAlike.{back, none_from, least_from}
use Rattle.eos_check.proofs.KeptTransactions as transactions
use Rattle.eos_check.proofs.KeptMatching as matching
use Rattle.eos_check.proofs.KeptLineage as lineages

module _ (e : EvidenceParts) (ls : List PartLog) (of : AreLogsOf e.partitions ls) where
  in_log : StandAlike (StandsInLog (kept_of e ls)) (StandsInLog ls)
  in_log = transactions.faults_kept e.spec.apps ls

  decisions : decisions_of (transaction_parts (kept_of e ls)) ≡ decisions_of (transaction_parts ls)
  decisions = transactions.decisions_kept e.spec.apps ls

  in_matching : StandAlike (StandsInMatching (kept_of e ls)) (StandsInMatching ls)
  in_matching = subst (λ (ds : List Decision). StandAlike (matches.Stands ds (kept_of e ls)) (StandsInMatching ls)) (sym decisions)
      (matching.faults_kept e.spec.apps (decisions_of (transaction_parts ls)) ls)

  in_lineage : StandAlike (lineage.Stands e.spec.apps (kept_of e ls)) (lineage.Stands e.spec.apps ls)
  in_lineage = lineages.faults_kept e.spec.apps ls

  pub faults : StandAlike (StandsKept e ls of) (Stands e ls of)
  faults (InPartition f) = (λ s. s, λ s. s)
  faults (Log f) = (λ s. (s.0, (in_log f).0 s.1), λ s. (s.0, (in_log f).1 s.1))
  faults (Match f) = (
    λ s. (s.0, none_from in_log s.1, (in_matching f).0 s.2),
    λ s. (s.0, none_from (back in_log) s.1, (in_matching f).1 s.2),
  )
  faults (Lineage f) = (
    λ s. (s.0, none_from in_log s.1, none_from in_matching s.2, (in_lineage f).0 s.3),
    λ s. (s.0, none_from (back in_log) s.1, none_from (back in_matching) s.2, (in_lineage f).1 s.3),
  )

  -- ---- counts

  counts_from : (c : Counts) → AreCounts e.spec.apps (kept_of e ls) c → AreCounts e.spec.apps ls c
  counts_from c h = record {
    transactions = h.transactions ∙ ap length decisions;
    inputs = h.inputs ∙ lineages.count_inputs_kept e.spec.apps ls;
    outputs = h.outputs ∙ lineages.count_outputs_kept e.spec.apps ls;
  }

  counts_back : (c : Counts) → AreCounts e.spec.apps ls c → AreCounts e.spec.apps (kept_of e ls) c
  counts_back c h = record {
    transactions = h.transactions ∙ sym (ap length decisions);
    inputs = h.inputs ∙ sym (lineages.count_inputs_kept e.spec.apps ls);
    outputs = h.outputs ∙ sym (lineages.count_outputs_kept e.spec.apps ls);
  }

  -- ---- the verdict

  pub verdicts : IsEvidence e → (v : Verdict) → IsKeptVerdict e ls of v ↔ IsVerdictOf e ls of v
  verdicts is (Yes c) = (
    λ h. ((good_law e ls of is).1 (none_from faults h.0), counts_from c h.1),
    λ h. (none_from (back faults) ((good_law e ls of is).0 h.0), counts_back c h.1),
  )
  verdicts is (No f) = (least_from (verdict_cmp e.spec.apps) faults f, least_from (verdict_cmp e.spec.apps) (back faults) f)

  -- ---- the phases, one after the other

  pub log_answers : (f : LogFault) → NoneStands (StandsInPartitions e.partitions ls of) → IsLeast logs.log_cmp (StandsInLog (kept_of e ls)) f → IsVerdictOf e ls of (No (Log f))
  log_answers f p m = no_log e ls of f p (least_from logs.log_cmp in_log f m)

  pub matching_answers : (f : MatchFault) → NoneStands (StandsInPartitions e.partitions ls of) → NoneStands (StandsInLog (kept_of e ls))
      → IsLeast matches.fault_cmp (StandsInMatching (kept_of e ls)) f → IsVerdictOf e ls of (No (Match f))
  matching_answers f p l m = no_match e ls of f p (none_from in_log l) (least_from matches.fault_cmp in_matching f m)

  pub lineage_answers : (f : LineageFault) → NoneStands (StandsInPartitions e.partitions ls of) → NoneStands (StandsInLog (kept_of e ls))
      → NoneStands (StandsInMatching (kept_of e ls)) → IsLeast (lineage.lineage_cmp e.spec.apps) (lineage.Stands e.spec.apps (kept_of e ls)) f
      → IsVerdictOf e ls of (No (Lineage f))
  lineage_answers f p l t m = no_lineage e ls of f p (none_from in_log l) (none_from in_matching t) (least_from (lineage.lineage_cmp e.spec.apps) in_lineage f m)

  pub yes_answers : (c : Counts) → IsEvidence e → NoneStands (StandsInPartitions e.partitions ls of) → NoneStands (StandsInLog (kept_of e ls))
      → NoneStands (StandsInMatching (kept_of e ls)) → NoneStands (lineage.Stands e.spec.apps (kept_of e ls)) → AreCounts e.spec.apps (kept_of e ls) c
      → IsVerdictOf e ls of (Yes c)
  yes_answers c is p l t m counts = yes e ls of c is p (none_from in_log l) (none_from in_matching t) (none_from in_lineage m) (counts_from c counts)

  over : IsEvidence e → NoneStands (StandsInPartitions e.partitions ls of) → (v : Verdict) → IsVerdictOver e.spec.apps (kept_of e ls) v → IsVerdictOf e ls of v
  over is p (No (InPartition f)) h = absurd h
  over is p (No (Log f)) h = log_answers f p h
  over is p (No (Match f)) h = matching_answers f p h.0 h.1
  over is p (No (Lineage f)) h = lineage_answers f p h.0 h.1 h.2
  over is p (Yes c) h = yes_answers c is p h.0 h.1 h.2 h.3

  judged_by : IsEvidence e → (o : Option PartitionFault) → IsLeastOrNone partition_cmp (StandsInPartitions e.partitions ls of) o → (v : Verdict)
      → IsJudged e.spec.apps (kept_of e ls) o v → IsVerdictOf e ls of v
  judged_by is None p v h = over is p v (h ((all_kept e.spec.apps ls).1 (in_order e ls is of)))
  judged_by is (Some f) p v h = subst (IsVerdictOf e ls of) (sym h) (no_partition e ls of f p)

pub judged : (e : EvidenceParts) (ls : List PartLog) (of : AreLogsOf e.partitions ls) (fs : List (Option PartitionFault)) (v : Verdict) → IsEvidence e → AreFaultsIn e.partitions fs
    → IsJudged e.spec.apps (kept_of e ls) (first_of fs) v → IsVerdictOf e ls of v
judged e ls of fs v is named h = judged_by e ls of is (first_of fs) (least_named e ls of fs is named) v h
