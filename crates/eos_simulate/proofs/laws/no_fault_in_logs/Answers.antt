use Rattle.eos_simulate.proofs.EverySchedule.{no_fault_in_logs}
use Rattle.eos_simulate.proofs.laws.no_fault_in_logs.Goals as goal

pub returns : goal.returns
returns g = no_fault_in_logs
