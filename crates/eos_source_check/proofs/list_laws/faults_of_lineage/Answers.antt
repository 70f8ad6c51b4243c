use Rattle.std.proofs.Common.{◌∷◌}
use Rattle.eos_source_check.proofs.LaterAlike.{whole_later}
use Rattle.eos_source_check.proofs.PhaseLists.{lineage_list}
use Rattle.eos_source_check.proofs.list_laws.faults_of_lineage.Goals as goal

pub returns : goal.returns
returns c = λ e ls of first others none no_log no_match all. (whole_later e ls of none _).0 (lineage_list e.spec.apps ls (first ∷ others) no_log no_match all)
