use Rattle.eos_claims.proofs.FaultOrder.{unique}
use Rattle.eos_claims.proofs.laws.least_is_unique.Goals as goal

pub returns : goal.returns
returns c = unique
