-- The names under which refusals are printed.
use Rattle.std.specs.Prelude.{ℕ, List, codes}
use Rattle.eos_cluster.specs.declared.cluster.NewFault.{NewFault}
use Rattle.eos_cluster.specs.declared.cluster.NewFault.TheVariants as faults
use Rattle.eos_cluster.specs.declared.evidence.EvidenceRefusal.{EvidenceRefusal}
use Rattle.eos_cluster.specs.declared.evidence.EvidenceRefusal.TheVariants as refusals

abbrev pub new_fault_name : NewFault → List ℕ
new_fault_name faults.Range = codes "Range"
new_fault_name faults.OutOfMemory = codes "OutOfMemory"

abbrev pub evidence_refusal_name : EvidenceRefusal → List ℕ
evidence_refusal_name refusals.NotAtRest = codes "NotAtRest"
evidence_refusal_name refusals.OutOfMemory = codes "OutOfMemory"
