use Rattle.eos_simulate.proofs.EverySchedule.{never_accused}
use Rattle.eos_simulate.proofs.laws.never_accused.Goals as goal

pub returns : goal.returns
returns g = never_accused
