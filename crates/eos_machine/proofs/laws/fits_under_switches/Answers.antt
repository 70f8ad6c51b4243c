use Rattle.eos_machine.specs.World.{opening}
use Rattle.eos_machine.proofs.BoundedEvents.{bounded_run_under, bounded_opening}
use Rattle.eos_machine.proofs.FormedEvents.{formed_run, formed_opening}
use Rattle.eos_machine.proofs.laws.fits_under_switches.Goals as goal

pub returns-clause-numbers : goal.returns-clause-numbers
returns-clause-numbers g = λ c xs. bounded_run_under c (opening c) xs (bounded_opening c)

pub returns-clause-names : goal.returns-clause-names
returns-clause-names g = λ c xs. formed_run c (opening c) xs (formed_opening c)
