-- The faults of applications one after the other.
use Rattle.std.specs.Prelude.{◌≡◌, Option, option_map, List, map, flat_map}
use Rattle.eos_base.specs.Members.{Has}
use Rattle.eos_evidence.specs.declared.application.App.{App}
use Rattle.eos_fold.specs.Parts.{PartLog}
use Rattle.eos_claims.specs.declared.fault.OutputFault.{OutputFault}
use Rattle.eos_commits.specs.Commits.{Group}
use Rattle.eos_verdict.specs.declared.lineage_fault.LineageFault.{LineageFault}
use Rattle.eos_verdict.specs.declared.lineage_fault.LineageFault.TheVariants.{Output}
use Rattle.eos_verdict.specs.declared.verdict.Fault.{Fault}
use Rattle.eos_verdict.specs.declared.verdict.Fault.TheVariants.{Lineage}
use Rattle.eos_commits.specs.Applications.{application_of}
use Rattle.eos_lineage.specs.Faults.{named_group}
use Rattle.eos_faults.specs.declared.lent.LentFault.{LentFault}
use Rattle.eos_faults.specs.declared.tables.Books.{Books}
use Rattle.eos_faults.specs.steps.OutputFaultsGathered.{AreOutputFaults}
use Rattle.eos_faults.specs.steps.Plain.{fault_of}

abbrev pub in_group : Option Group → OutputFault → LineageFault
in_group group f = Output group f

-- the group that faults of these books name
abbrev pub group_in : Books → Option Group
group_in b = option_map (λ g. g.now) b.group

abbrev pub named_faults : Option Group → List OutputFault → List Fault
named_faults group fs = map Lineage (map (in_group group) fs)

-- the same of a fault whose names are lent
abbrev pub named_in : Option Group → LentFault → LineageFault
named_in group f = in_group group (fault_of f)

-- an application, and the list of its faults
pub record AppFaults : Type 0 where
  pub app : App
  pub faults : List OutputFault

abbrev pub app_of : AppFaults → App
app_of t = t.app

abbrev pub faults_in : List App → AppFaults → List LineageFault
faults_in apps t = map (in_group (named_group apps t.app)) t.faults

-- the list has the faults of these of the applications
pub record AreTaken (apps : List App) (ps : List PartLog) (done : List App) (list : List LineageFault) : Type 0 where
  pub taken : List AppFaults
  pub are : map app_of taken ≡ done
  pub each : (t : AppFaults) → Has taken t → AreOutputFaults (application_of t.app ps) t.faults
  pub all : list ≡ flat_map (faults_in apps) taken
