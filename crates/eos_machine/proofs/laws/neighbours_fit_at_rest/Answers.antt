use Rattle.eos_machine.specs.World.{opening}
use Rattle.eos_machine.specs.Machine.{world_after}
use Rattle.eos_machine.proofs.Resting.{good_opening, rest_is_atomic}
use Rattle.eos_machine.proofs.GoodEvents.{good_run}
use Rattle.eos_machine.proofs.Counting.{counted_run, counted_opening}
use Rattle.eos_machine.proofs.TouchRules.{keeps_sequences, neighbours_fit}
use Rattle.eos_machine.proofs.laws.neighbours_fit_at_rest.Goals as goal

pub returns : goal.returns
returns g =
    λ c es i n r. let good = good_run c (opening c) es i (good_opening c) n in
    neighbours_fit c (world_after c (opening c) es) (keeps_sequences c (world_after c (opening c) es) good (counted_run c (opening c) es (counted_opening c))) (rest_is_atomic c (world_after c (opening c) es) good r)
