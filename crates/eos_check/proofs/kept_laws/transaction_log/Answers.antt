use Rattle.eos_check.proofs.KeptTransactions.{decisions_kept, faults_kept, rule_kept}
use Rattle.eos_check.proofs.kept_laws.transaction_log.Goals as goal

pub returns-clause-decisions : goal.returns-clause-decisions
returns-clause-decisions c = decisions_kept

pub returns-clause-faults : goal.returns-clause-faults
returns-clause-faults c = faults_kept

pub returns-clause-rule : goal.returns-clause-rule
returns-clause-rule c = rule_kept
