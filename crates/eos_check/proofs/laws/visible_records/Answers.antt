use Rattle.eos_check.proofs.VisibleLaw.{law}
use Rattle.eos_check.proofs.laws.visible_records.Goals as goal

pub returns : goal.returns
returns c = law
