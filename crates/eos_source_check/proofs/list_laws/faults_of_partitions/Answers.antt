use Rattle.eos_source_check.proofs.PhaseLists.{partition_list}
use Rattle.eos_source_check.proofs.list_laws.faults_of_partitions.Goals as goal

pub returns : goal.returns
returns c = λ e ls of first others all. partition_list e ls of first others all
