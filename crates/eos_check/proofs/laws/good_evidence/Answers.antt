use Rattle.eos_check.proofs.GoodLaw.{law}
use Rattle.eos_check.proofs.laws.good_evidence.Goals as goal

pub returns : goal.returns
returns c = law
