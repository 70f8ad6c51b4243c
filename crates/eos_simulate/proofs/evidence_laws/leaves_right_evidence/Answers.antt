use Rattle.eos_simulate.proofs.LeftEvidence.{leaves_right}
use Rattle.eos_simulate.proofs.evidence_laws.leaves_right_evidence.Goals as goal

pub returns : goal.returns
returns g = leaves_right
