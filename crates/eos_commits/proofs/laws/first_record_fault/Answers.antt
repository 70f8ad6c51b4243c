use Rattle.eos_commits.specs.Faults.{Stands}
use Rattle.eos_commits.proofs.VisibleOrder.{visible_total}
use Rattle.eos_base.proofs.WholeList.{first_least}
use Rattle.eos_commits.proofs.laws.first_record_fault.Goals as goal

pub returns : goal.returns
returns c = λ apps ps first others all. first_least visible_total (Stands apps ps) first others all
