use Rattle.eos_base.proofs.LeastOf.{one_least}
use Rattle.eos_commits.specs.Faults.{Stands}
use Rattle.eos_commits.proofs.VisibleOrder.{visible_total, visible_exact}
use Rattle.eos_commits.proofs.laws.least_is_unique.Goals as goal

pub returns : goal.returns
returns c = λ apps ps f g. one_least visible_total visible_exact (Stands apps ps) f g
