use Rattle.eos_table.specs.LogFaults.{Stands, log_cmp}
use Rattle.eos_base.proofs.WholeList.{none_listed}
use Rattle.eos_table.proofs.log_laws.no_log_fault.Goals as goal

pub returns : goal.returns
returns c = λ log all. none_listed log_cmp (Stands log) all
