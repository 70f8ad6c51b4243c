use Rattle.eos_machine.specs.World.{opening}
use Rattle.eos_machine.specs.Machine.{world_after}
use Rattle.eos_machine.proofs.Resting.{good_opening}
use Rattle.eos_machine.proofs.GoodEvents.{good_run}
use Rattle.eos_machine.proofs.Counting.{counted_run, counted_opening}
use Rattle.eos_machine.proofs.TouchRules.{keeps_sequences}
use Rattle.eos_machine.proofs.laws.sequences_kept.Goals as goal

pub returns : goal.returns
returns g = λ c es i n. keeps_sequences c (world_after c (opening c) es) (good_run c (opening c) es i (good_opening c) n) (counted_run c (opening c) es (counted_opening c))
