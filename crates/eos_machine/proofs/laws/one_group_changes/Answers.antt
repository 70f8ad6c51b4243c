use Rattle.eos_machine.specs.World.{opening}
use Rattle.eos_machine.specs.Machine.{world_under}
use Rattle.eos_machine.proofs.FormedEvents.{formed_run, formed_opening}
use Rattle.eos_machine.proofs.Generations.{raised, others}
use Rattle.eos_machine.proofs.laws.one_group_changes.Goals as goal

pub returns-clause-raised : goal.returns-clause-raised
returns-clause-raised g = λ c xs n l. raised c (world_under c (opening c) xs) n l (formed_run c (opening c) xs (formed_opening c))

pub returns-clause-others : goal.returns-clause-others
returns-clause-others g = λ c w n m d. others c w n m d
