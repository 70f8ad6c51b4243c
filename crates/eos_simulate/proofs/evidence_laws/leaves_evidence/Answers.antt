use Rattle.eos_simulate.proofs.LeftEvidence.{leaves}
use Rattle.eos_simulate.proofs.evidence_laws.leaves_evidence.Goals as goal

pub returns : goal.returns
returns g = leaves
