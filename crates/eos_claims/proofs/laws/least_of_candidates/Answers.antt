use Rattle.std.proofs.Common.{refl}
use Rattle.eos_claims.proofs.CandidatesWhole.{least}
use Rattle.eos_claims.proofs.laws.least_of_candidates.Goals as goal

pub returns : goal.returns
returns c = λ a cs reads apart below. least a cs reads apart below _ refl
