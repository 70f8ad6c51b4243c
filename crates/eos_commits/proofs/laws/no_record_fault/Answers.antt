use Rattle.eos_commits.specs.Faults.{visible_cmp, Stands}
use Rattle.eos_base.proofs.WholeList.{none_listed}
use Rattle.eos_commits.proofs.laws.no_record_fault.Goals as goal

pub returns : goal.returns
returns c = λ apps ps all. none_listed visible_cmp (Stands apps ps) all
