use Rattle.eos_check.proofs.KeptAnswers.{judged}
use Rattle.eos_check.proofs.kept_laws.judged.Goals as goal

pub returns : goal.returns
returns c = judged
