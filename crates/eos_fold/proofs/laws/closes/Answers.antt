use Rattle.eos_fold.proofs.ClosesRead.{closes_read, opens_read}
use Rattle.eos_fold.proofs.laws.closes.Goals as goal

pub returns-clause-closes : goal.returns-clause-closes
returns-clause-closes c = closes_read

pub returns-clause-opens : goal.returns-clause-opens
returns-clause-opens c = opens_read
