-- What was done so far is kept.
use Rattle.eos_machine.specs.Elections.{LosesNothing}
use Rattle.eos_drive.specs.Driven.{IsKept}
use Rattle.eos_simulate.proofs.kept.show.Given as goal

abbrev pub invariant-loop-switch : goal.invariant-loop-switch
invariant-loop-switch l = IsKept l.fn.cluster l.fn.history l.cluster l.history × (LosesNothing l.fn.cluster.world → LosesNothing l.cluster.world)
