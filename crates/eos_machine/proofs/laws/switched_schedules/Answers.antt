use Rattle.eos_machine.proofs.Computed.{breaks}
use Rattle.eos_machine.proofs.laws.switched_schedules.Goals as goal

pub returns : goal.returns
returns g = breaks
