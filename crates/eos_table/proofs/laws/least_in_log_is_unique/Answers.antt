use Rattle.eos_base.proofs.LeastOf.{one_least}
use Rattle.eos_table.specs.LogFaults.{Stands}
use Rattle.eos_table.proofs.LogOrder.{log_total, log_exact}
use Rattle.eos_table.proofs.laws.least_in_log_is_unique.Goals as goal

pub returns : goal.returns
returns c = λ log f g. one_least log_total log_exact (Stands log) f g
