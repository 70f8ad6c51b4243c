use Rattle.eos_table.specs.LogFaults.{Stands}
use Rattle.eos_table.proofs.LogOrder.{log_total}
use Rattle.eos_base.proofs.WholeList.{first_least}
use Rattle.eos_table.proofs.log_laws.first_log_fault.Goals as goal

pub returns : goal.returns
returns c = λ log first others all. first_least log_total (Stands log) first others all
