use Rattle.eos_machine.specs.World.{opening}
use Rattle.eos_machine.proofs.Computed.{none_is}
use Rattle.eos_machine.proofs.laws.no_switch.Goals as goal

pub returns : goal.returns
returns g = λ c es. none_is c (opening c) es
