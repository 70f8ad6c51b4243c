use Rattle.eos_simulate.proofs.EverySchedule.{right_logs}
use Rattle.eos_simulate.proofs.laws.right_logs.Goals as goal

pub returns : goal.returns
returns g = right_logs
