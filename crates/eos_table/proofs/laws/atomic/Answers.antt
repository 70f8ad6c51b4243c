use Rattle.eos_table.proofs.AtomicLaw.{law}
use Rattle.eos_table.proofs.laws.atomic.Goals as goal

pub returns : goal.returns
returns c = law
