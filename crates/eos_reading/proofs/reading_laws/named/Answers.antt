use Rattle.eos_reading.proofs.NamedHeaders.{values_same, claim_same, named_twice}
use Rattle.eos_reading.proofs.SaidClaims.{claim_said}
use Rattle.eos_reading.proofs.reading_laws.named.Goals as goal

pub returns-clause-values : goal.returns-clause-values
returns-clause-values c = values_same

pub returns-clause-claim : goal.returns-clause-claim
returns-clause-claim c = claim_same

pub returns-clause-twice : goal.returns-clause-twice
returns-clause-twice c = named_twice

pub returns-clause-said : goal.returns-clause-said
returns-clause-said c = claim_said
