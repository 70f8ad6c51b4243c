use Rattle.eos_drive.specs.steps.Drives.{HasAsked}
use Rattle.eos_drive.proofs.settle.finish_each.Given as goal

abbrev pub invariant-loop-number : goal.invariant-loop-number
invariant-loop-number l = HasAsked l.fn.cluster l.fn.driver l.cluster l.driver
