-- The faults of the lineage by phase, number and name.
use Rattle.std.specs.Prelude.{ℕ, List}
use Rattle.eos_claims.specs.Faults as outputs
use Rattle.eos_verdict.specs.VisibleNames as records
use Rattle.eos_verdict.specs.declared.lineage_fault.LineageFault.{LineageFault}
use Rattle.eos_verdict.specs.declared.lineage_fault.LineageFault.TheVariants.{Record, Output}

abbrev pub phase_of : LineageFault → ℕ
phase_of (Record f) = 4
phase_of (Output group f) = 5

abbrev pub number_of : LineageFault → ℕ
number_of (Record f) = records.number_of f.kind
number_of (Output group f) = outputs.number_of f.kind

abbrev pub name_of : LineageFault → List ℕ
name_of (Record f) = records.name_of f.kind
name_of (Output group f) = outputs.name_of f.kind
