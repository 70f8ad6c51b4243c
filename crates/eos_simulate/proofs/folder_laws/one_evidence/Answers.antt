use Rattle.eos_simulate.proofs.OneEvidence as one
use Rattle.eos_simulate.proofs.folder_laws.one_evidence.Goals as goal

pub returns : goal.returns
returns g = one.one_evidence
