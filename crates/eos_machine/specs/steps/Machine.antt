-- What happens to a cluster: each event's effect and reply under any switches, and any list of events.
use Rattle.eos_machine.specs.Switching.{none}
use Rattle.eos_machine.specs.LogIndexes.{Config}
use Rattle.eos_machine.specs.World.{World, Event}
use Rattle.eos_machine.specs.Answers.{Answer}
use Rattle.eos_machine.specs.Machine.{happens_under}

-- with no switch, as in an honest cluster
abbrev pub happens : Config → World → Event → Answer
happens c w e = happens_under none c w e
