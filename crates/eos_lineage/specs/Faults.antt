-- The faults of the lineage: those of single records, and where there are none, those of an application's outputs.
use Rattle.std.specs.Prelude.{◌≡◌, ℕ, suc, Option, Some, None, List, [], ◌∷◌, length, nat_lt, if◌then◌else◌, Result, Ok, Err}
use Rattle.std.specs.Ordering.{nat_cmp, ordering_then}
use Rattle.std.specs.declared.cmp.Ordering.{Ordering}
use Rattle.std.specs.declared.cmp.Ordering.TheVariants.{Less, Greater}
use Rattle.eos_base.specs.Members.{Has}
use Rattle.eos_base.specs.Least.{NoneStands, IsLeast}
use Rattle.eos_evidence.specs.declared.application.App.{App}
use Rattle.eos_fold.specs.Parts.{PartLog}
use Rattle.eos_claims.specs.declared.fault.OutputFault.{OutputFault}
use Rattle.eos_claims.specs.Faults as outputs
use Rattle.eos_commits.specs.Commits.{Group, is_same}
use Rattle.eos_commits.specs.Faults as records
use Rattle.eos_lineage.specs.declared.counts.LineageCounts.{LineageCounts}
use Rattle.eos_verdict.specs.declared.lineage_fault.LineageFault.{LineageFault}
use Rattle.eos_verdict.specs.declared.lineage_fault.LineageFault.TheVariants.{Record, Output}
use Rattle.eos_commits.specs.Applications.{application_of}
use Rattle.eos_lineage.specs.Lineage.{count_inputs, count_outputs}

-- the group is named where there is more than one application
abbrev pub named_group : List App → App → Option Group
named_group apps app = if nat_lt 1 (length apps) then Some app.group else None

-- a fault of one application's outputs
pub record StandsInOutputs (apps : List App) (ps : List PartLog) (group : Option Group) (f : OutputFault) : Type 0 where
  pub app : App
  pub has : Has apps app
  pub named : group ≡ named_group apps app
  pub stands : outputs.Stands (application_of app ps) f

abbrev pub Stands : List App → List PartLog → LineageFault → Type 0
Stands apps ps (Record f) = records.Stands apps ps f
Stands apps ps (Output group f) = NoneStands (records.Stands apps ps) × StandsInOutputs apps ps group f

-- ---- their order

-- the place of a group's application among the applications
abbrev pub place_of_group : Group → List App → ℕ
place_of_group group [] = 0
place_of_group group (app ∷ apps) = if is_same app.group group then 0 else suc (place_of_group group apps)

-- a fault without a group is of the only application
abbrev pub place_of : List App → Option Group → ℕ
place_of apps None = 0
place_of apps (Some group) = place_of_group group apps

-- those of records first; those of outputs by the application's place, then as one application's are ordered
abbrev pub lineage_cmp : List App → LineageFault → LineageFault → Ordering
lineage_cmp apps (Record f) (Record g) = records.visible_cmp f g
lineage_cmp apps (Record f) (Output h g) = Less
lineage_cmp apps (Output h f) (Record g) = Greater
lineage_cmp apps (Output h f) (Output i g) = ordering_then (nat_cmp (place_of apps h) (place_of apps i)) (outputs.fault_cmp f g)

-- ---- the answer

-- the counts where no fault stands, else the least fault
abbrev pub IsAnswer : List App → List PartLog → Result LineageCounts LineageFault → Type 0
IsAnswer apps ps (Ok counts) = NoneStands (Stands apps ps) × (counts.inputs ≡ count_inputs apps ps) × (counts.outputs ≡ count_outputs apps ps)
IsAnswer apps ps (Err f) = IsLeast (lineage_cmp apps) (Stands apps ps) f

-- the number of inputs, and that of outputs
abbrev pub as_counts : Result (ℕ × ℕ) LineageFault → Result LineageCounts LineageFault
as_counts (Ok pair) = Ok (record { inputs = pair.0; outputs = pair.1 })
as_counts (Err f) = Err f
