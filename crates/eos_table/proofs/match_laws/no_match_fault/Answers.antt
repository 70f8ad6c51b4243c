use Rattle.eos_table.specs.MatchFaults.{Stands, fault_cmp}
use Rattle.eos_base.proofs.WholeList.{none_listed}
use Rattle.eos_table.proofs.match_laws.no_match_fault.Goals as goal

pub returns : goal.returns
returns c = λ ds ps all. none_listed fault_cmp (Stands ds ps) all
