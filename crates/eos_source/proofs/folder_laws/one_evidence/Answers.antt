use Rattle.eos_source.proofs.OneEvidence.{one_evidence}
use Rattle.eos_source.proofs.folder_laws.one_evidence.Goals as goal

pub returns : goal.returns
returns c = one_evidence
