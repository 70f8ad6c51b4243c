use Rattle.eos_commits.proofs.RecordsLaw.{law}
use Rattle.eos_commits.proofs.laws.records_kept.Goals as goal

pub returns : goal.returns
returns c = law
