use Rattle.eos_source_check.proofs.LaterAlike.{whole_later}
use Rattle.eos_source_check.proofs.PhaseLists.{log_list}
use Rattle.eos_source_check.proofs.list_laws.faults_of_log.Goals as goal

pub returns : goal.returns
returns c = λ e ls of first others none all. (whole_later e ls of none _).0 (log_list e.spec.apps ls first others all)
