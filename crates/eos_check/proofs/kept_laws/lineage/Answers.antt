use Rattle.eos_check.proofs.KeptLineage.{application_kept, faults_kept, rule_kept, count_inputs_kept, count_outputs_kept}
use Rattle.eos_check.proofs.kept_laws.lineage.Goals as goal

pub returns-clause-applications : goal.returns-clause-applications
returns-clause-applications c = application_kept

pub returns-clause-faults : goal.returns-clause-faults
returns-clause-faults c = faults_kept

pub returns-clause-rule : goal.returns-clause-rule
returns-clause-rule c = rule_kept

pub returns-clause-inputs : goal.returns-clause-inputs
returns-clause-inputs c = count_inputs_kept

pub returns-clause-outputs : goal.returns-clause-outputs
returns-clause-outputs c = count_outputs_kept
