use Rattle.eos_claims.proofs.OutputsLaw.{law}
use Rattle.eos_claims.proofs.laws.exact_outputs.Goals as goal

pub returns : goal.returns
returns c = law
