use Rattle.eos_drive.specs.steps.Drives.{HasAsked}
use Rattle.eos_drive.proofs.settle.carry_all.Given as goal

abbrev pub invariant-loop : goal.invariant-loop
invariant-loop l = HasAsked l.fn.cluster l.fn.driver l.cluster l.driver
