use Rattle.eos_table.proofs.LogLaw.{law}
use Rattle.eos_table.proofs.laws.transaction_log.Goals as goal

pub returns : goal.returns
returns c = law
