use Rattle.eos_lineage.proofs.LineageLaw.{exact_law}
use Rattle.eos_lineage.proofs.laws.exact_outputs.Goals as goal

pub returns : goal.returns
returns c = exact_law
