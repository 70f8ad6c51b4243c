-- All faults that stand as one list: each of them, in the verdict's order; but of the outputs that one input lacks, which may be
-- very many, the first alone.
use Rattle.std.specs.Prelude.{◌≡◌, ◌⊎◌, ◌<◌, List, Option}
use Rattle.std.specs.List.Sorted.{IsStrictlySortedBy}
use Rattle.eos_base.specs.Members.{Has}
use Rattle.eos_evidence.specs.declared.application.App.{App}
use Rattle.eos_evidence.specs.Evidence.{EvidenceParts}
use Rattle.eos_fold.specs.Parts.{PartLog}
use Rattle.eos_claims.specs.declared.fault.OutputFault.{OutputFault}
use Rattle.eos_commits.specs.Commits.{Group}
use Rattle.eos_verdict.specs.declared.lineage_fault.LineageFault.{LineageFault}
use Rattle.eos_verdict.specs.declared.lineage_fault.LineageFault.TheVariants.{Record, Output}
use Rattle.eos_commits.specs.EvidenceLogs.{AreLogsOf}
use Rattle.eos_faults.specs.OneInput.{OfOneInput}
use Rattle.eos_verdict.specs.declared.verdict.Fault.{Fault}
use Rattle.eos_verdict.specs.declared.verdict.Fault.TheVariants.{Partition as InPartition, Log, Match, Lineage}
use Rattle.eos_check.specs.Verdicts.{Stands, verdict_cmp}

abbrev pub IsLaterIn : List Fault → LineageFault → Type 0
IsLaterIn list (Record f) = ⊥
IsLaterIn list (Output group f) = (g : OutputFault) × Has list (Lineage (Output group g)) × OfOneInput g f × (g.output < f.output)

abbrev pub IsLaterMissing : List Fault → Fault → Type 0
IsLaterMissing list (InPartition f) = ⊥
IsLaterMissing list (Log f) = ⊥
IsLaterMissing list (Match f) = ⊥
IsLaterMissing list (Lineage f) = IsLaterIn list f

-- all that stand so, in the order for these applications
pub record AreAllOf (apps : List App) (Holds : Fault → Type 0) (list : List Fault) : Type 0 where
  pub rises : IsStrictlySortedBy (verdict_cmp apps) list
  pub each : (f : Fault) → Has list f → Holds f
  pub all : (f : Fault) → Holds f → Has list f ⊎ IsLaterMissing list f
  pub one_missing : (group : Option Group) (f g : OutputFault) → Has list (Lineage (Output group f)) → Has list (Lineage (Output group g)) → OfOneInput f g → f ≡ g

-- all of an evidence with these logs
abbrev pub AreAllFaults : (e : EvidenceParts) (ls : List PartLog) → AreLogsOf e.partitions ls → List Fault → Type 0
AreAllFaults e ls of list = AreAllOf e.spec.apps (Stands e ls of) list
