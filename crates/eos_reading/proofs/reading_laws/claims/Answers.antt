use Rattle.eos_reading.proofs.ClaimHeaders.{back}
use Rattle.eos_reading.proofs.reading_laws.claims.Goals as goal

pub returns-clause-headers : goal.returns-clause-headers
returns-clause-headers c = back

pub returns-clause-claims : goal.returns-clause-claims
returns-clause-claims c = λ x. back x.headers

pub returns-clause-texts : goal.returns-clause-texts
returns-clause-texts c = λ x. back x.headers
