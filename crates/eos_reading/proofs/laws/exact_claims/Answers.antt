use Rattle.eos_reading.proofs.ExactClaims.{exact_claim}
use Rattle.eos_reading.proofs.laws.exact_claims.Goals as goal

pub returns : goal.returns
returns c = exact_claim
