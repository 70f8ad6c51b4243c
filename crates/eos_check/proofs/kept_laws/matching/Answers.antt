use Rattle.eos_check.proofs.KeptMatching.{faults_kept, rule_kept}
use Rattle.eos_check.proofs.kept_laws.matching.Goals as goal

pub returns-clause-faults : goal.returns-clause-faults
returns-clause-faults c = faults_kept

pub returns-clause-rule : goal.returns-clause-rule
returns-clause-rule c = rule_kept
