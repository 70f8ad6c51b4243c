use Rattle.eos_machine.specs.World.{opening}
use Rattle.eos_machine.proofs.Counting.{counted_run, counted_opening}
use Rattle.eos_machine.proofs.BoundedEvents.{bounded_run, bounded_opening}
use Rattle.eos_machine.proofs.laws.numbers_fit.Goals as goal

pub returns : goal.returns
returns g = λ c es. (bounded_run c (opening c) es (bounded_opening c), (counted_run c (opening c) es (counted_opening c)).limit)
