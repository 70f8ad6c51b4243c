use Rattle.eos_source_check.proofs.LaterAlike.{whole_later}
use Rattle.eos_source_check.proofs.PhaseLists.{match_list}
use Rattle.eos_source_check.proofs.list_laws.faults_of_matching.Goals as goal

pub returns : goal.returns
returns c = λ e ls of first others none no_log all. (whole_later e ls of none _).0 (match_list e.spec.apps ls first others no_log all)
