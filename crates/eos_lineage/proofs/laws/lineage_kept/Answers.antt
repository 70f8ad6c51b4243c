use Rattle.eos_lineage.proofs.LineageLaw.{law}
use Rattle.eos_lineage.proofs.laws.lineage_kept.Goals as goal

pub returns : goal.returns
returns c = law
