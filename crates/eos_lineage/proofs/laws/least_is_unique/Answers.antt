use Rattle.eos_lineage.proofs.LineageLaw.{unique}
use Rattle.eos_lineage.proofs.laws.least_is_unique.Goals as goal

pub returns : goal.returns
returns c = unique
