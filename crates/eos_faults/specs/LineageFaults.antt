-- All faults of the lineage as one list: each that stands, in the verdict's order; but of the outputs that one input lacks, which may
-- be very many, the first alone.
use Rattle.std.specs.Prelude.{◌≡◌, ◌⊎◌, ◌<◌, List, Option}
use Rattle.std.specs.List.Sorted.{IsStrictlySortedBy}
use Rattle.eos_base.specs.Members.{Has}
use Rattle.eos_evidence.specs.declared.application.App.{App}
use Rattle.eos_fold.specs.Parts.{PartLog}
use Rattle.eos_claims.specs.declared.fault.OutputFault.{OutputFault}
use Rattle.eos_commits.specs.Commits.{Group}
use Rattle.eos_verdict.specs.declared.lineage_fault.LineageFault.{LineageFault}
use Rattle.eos_verdict.specs.declared.lineage_fault.LineageFault.TheVariants.{Record, Output}
use Rattle.eos_lineage.specs.Faults as lineage
use Rattle.eos_faults.specs.OneInput.{OfOneInput}

-- the list has an output of lesser number that the same input lacks
abbrev pub IsLaterOf : List LineageFault → LineageFault → Type 0
IsLaterOf list (Record f) = ⊥
IsLaterOf list (Output group f) = (g : OutputFault) × Has list (Output group g) × OfOneInput g f × (g.output < f.output)

-- all faults of visible records, or where there are none, of the applications' outputs
pub record AreLineageFaults (apps : List App) (ls : List PartLog) (list : List LineageFault) : Type 0 where
  pub rises : IsStrictlySortedBy (lineage.lineage_cmp apps) list
  pub each : (f : LineageFault) → Has list f → lineage.Stands apps ls f
  pub all : (f : LineageFault) → lineage.Stands apps ls f → Has list f ⊎ IsLaterOf list f
  pub one_missing : (group : Option Group) (f g : OutputFault) → Has list (Output group f) → Has list (Output group g) → OfOneInput f g → f ≡ g
