use Rattle.eos_table.specs.MatchFaults.{Stands}
use Rattle.eos_table.proofs.MatchOrder.{fault_total}
use Rattle.eos_base.proofs.WholeList.{first_least}
use Rattle.eos_table.proofs.match_laws.first_match_fault.Goals as goal

pub returns : goal.returns
returns c = λ ds ps first others all. first_least fault_total (Stands ds ps) first others all
