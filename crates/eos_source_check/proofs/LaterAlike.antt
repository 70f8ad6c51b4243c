-- What stands behind the first phase, over an evidence's logs or over what is kept of them, is what stands in the evidence where no
-- partition has a fault by itself; so all of the one are all of the other.
use Rattle.std.proofs.Common.{◌↔◌, List}
use Rattle.eos_base.specs.Least.{NoneStands}
use Rattle.eos_evidence.specs.declared.application.App.{App}
use Rattle.eos_evidence.specs.Evidence.{EvidenceParts}
use Rattle.eos_fold.specs.Parts.{PartLog}
use Rattle.eos_commits.specs.EvidenceLogs.{AreLogsOf}
use Rattle.eos_verdict.specs.declared.verdict.Fault.{Fault}
use Rattle.eos_verdict.specs.declared.verdict.Fault.TheVariants.{Partition as InPartition, Log, Match, Lineage}
use Rattle.eos_check.specs.Verdicts.{StandsInPartitions, Stands}
use Rattle.eos_check.specs.KeptVerdicts.{StandAlike, kept_of}
use Rattle.eos_check.proofs.KeptAnswers as kept
use Rattle.eos_check.proofs.StandingAlike.{back}
use Rattle.eos_source_check.specs.AllFaults.{AreAllOf, AreAllFaults}
use Rattle.eos_source_check.specs.LaterFaults.{StandsLater, AreLaterFaults}

list_from : (apps : List App) {P Q : Fault → Type 0} → StandAlike P Q → (list : List Fault) → AreAllOf apps P list → AreAllOf apps Q list
list_from apps alike list all = record {
  rises = all.rises;
  each = λ f h. (alike f).0 (all.each f h);
  all = λ f s. all.all f ((alike f).1 s);
  one_missing = all.one_missing;
}

same_lists : (apps : List App) {P Q : Fault → Type 0} → StandAlike P Q → (list : List Fault) → AreAllOf apps P list ↔ AreAllOf apps Q list
same_lists apps alike list = (list_from apps alike list, list_from apps (back alike) list)

module _ (e : EvidenceParts) (ls : List PartLog) (of : AreLogsOf e.partitions ls) (none : NoneStands (StandsInPartitions e.partitions ls of)) where
  over_whole : StandAlike (StandsLater e.spec.apps ls) (Stands e ls of)
  over_whole (InPartition f) = (λ s. absurd s, λ s. none f s)
  over_whole (Log f) = (λ s. (none, s), λ s. s.1)
  over_whole (Match f) = (λ s. (none, s.0, s.1), λ s. (s.1, s.2))
  over_whole (Lineage f) = (λ s. (none, s.0, s.1, s.2), λ s. (s.1, s.2, s.3))

  over_kept : StandAlike (StandsLater e.spec.apps (kept_of e ls)) (Stands e ls of)
  over_kept (InPartition f) = (λ s. absurd s, λ s. none f s)
  over_kept (Log f) = (λ s. (kept.faults e ls of (Log f)).0 (none, s), λ s. let k = (kept.faults e ls of (Log f)).1 s in k.1)
  over_kept (Match f) = (λ s. (kept.faults e ls of (Match f)).0 (none, s.0, s.1), λ s. let k = (kept.faults e ls of (Match f)).1 s in (k.1, k.2))
  over_kept (Lineage f) = (λ s. (kept.faults e ls of (Lineage f)).0 (none, s.0, s.1, s.2), λ s. let k = (kept.faults e ls of (Lineage f)).1 s in (k.1, k.2, k.3))

  pub whole_later : (list : List Fault) → AreLaterFaults e.spec.apps ls list ↔ AreAllFaults e ls of list
  whole_later list = same_lists e.spec.apps over_whole list

  pub kept_later : (list : List Fault) → AreLaterFaults e.spec.apps (kept_of e ls) list ↔ AreAllFaults e ls of list
  kept_later list = same_lists e.spec.apps over_kept list
