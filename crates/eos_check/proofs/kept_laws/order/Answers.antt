use Rattle.eos_check.proofs.KeptOrder.{all_kept, log_kept}
use Rattle.eos_check.proofs.kept_laws.order.Goals as goal

pub returns-clause-all : goal.returns-clause-all
returns-clause-all c = all_kept

pub returns-clause-log : goal.returns-clause-log
returns-clause-log c = log_kept
