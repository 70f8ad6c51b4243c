use Rattle.eos_check.proofs.RulesLaw.{law}
use Rattle.eos_check.proofs.laws.partition_rules.Goals as goal

pub returns : goal.returns
returns c = law
