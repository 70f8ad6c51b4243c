use Rattle.eos_base.proofs.LeastOf.{one_least}
use Rattle.eos_table.specs.MatchFaults.{Stands}
use Rattle.eos_table.proofs.MatchOrder.{fault_total, fault_exact}
use Rattle.eos_table.proofs.laws.least_is_unique.Goals as goal

pub returns : goal.returns
returns c = λ ds ps f g. one_least fault_total fault_exact (Stands ds ps) f g
