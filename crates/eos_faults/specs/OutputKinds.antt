-- Of which kind a fault of the outputs is.
use Rattle.std.specs.Prelude.{◌≡◌}
use Rattle.eos_claims.specs.declared.fault.OutputKind.{OutputKind}
use Rattle.eos_verdict.specs.declared.lineage_fault.LineageFault.{LineageFault}
use Rattle.eos_verdict.specs.declared.lineage_fault.LineageFault.TheVariants.{Record, Output}

abbrev pub IsOfKind : OutputKind → LineageFault → Type 0
IsOfKind kind (Record f) = ⊥
IsOfKind kind (Output group f) = f.kind ≡ kind
