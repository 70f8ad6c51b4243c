use Rattle.eos_machine.specs.World.{opening}
use Rattle.eos_machine.specs.Machine.{world_after}
use Rattle.eos_machine.proofs.Resting.{good_opening, rest_is_atomic}
use Rattle.eos_machine.proofs.GoodEvents.{good_run}
use Rattle.eos_machine.proofs.laws.atomic_at_rest.Goals as goal

pub returns : goal.returns
returns g = λ c es i n r. rest_is_atomic c (world_after c (opening c) es) (good_run c (opening c) es i (good_opening c) n) r
