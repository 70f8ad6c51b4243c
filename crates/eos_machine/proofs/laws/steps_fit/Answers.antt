use Rattle.eos_machine.specs.LogIndexes.{txn_index}
use Rattle.eos_machine.specs.World.{opening, log_at}
use Rattle.eos_machine.specs.Machine.{world_after}
use Rattle.eos_machine.proofs.Resting.{good_opening}
use Rattle.eos_machine.proofs.GoodEvents.{good_run}
use Rattle.eos_machine.proofs.StepRules.{all_steps}
use Rattle.eos_machine.proofs.laws.steps_fit.Goals as goal

pub returns : goal.returns
returns g = λ c es i n a. all_steps c a (log_at (world_after c (opening c) es) (txn_index c a)) ((good_run c (opening c) es i (good_opening c) n).steps a)
