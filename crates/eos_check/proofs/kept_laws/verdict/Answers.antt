use Rattle.eos_check.proofs.KeptAnswers.{faults, verdicts}
use Rattle.eos_check.proofs.kept_laws.verdict.Goals as goal

pub returns-clause-faults : goal.returns-clause-faults
returns-clause-faults c = faults

pub returns-clause-verdict : goal.returns-clause-verdict
returns-clause-verdict c = verdicts
