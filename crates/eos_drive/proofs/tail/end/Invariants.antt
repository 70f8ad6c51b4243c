use Rattle.eos_drive.specs.steps.Drives.{HasAsked}
use Rattle.eos_drive.proofs.tail.end.Given as goal

abbrev pub invariant-loop-place : goal.invariant-loop-place
invariant-loop-place l = HasAsked l.fn.cluster l.fn.driver l.cluster l.driver
