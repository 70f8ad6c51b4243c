use Rattle.eos_fold_file.proofs.RealHeads.{head_possible, head_again}
use Rattle.eos_fold_file.proofs.laws.heads.Goals as goal

pub returns-clause-possible : goal.returns-clause-possible
returns-clause-possible c = head_possible

pub returns-clause-same : goal.returns-clause-same
returns-clause-same c = head_again
