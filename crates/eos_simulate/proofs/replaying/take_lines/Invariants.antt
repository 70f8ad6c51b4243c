-- What was done so far is kept, and is what the lines said that were passed.
use Rattle.std.proofs.Common.{take}
use Rattle.eos_drive.specs.Driven.{IsKept}
use Rattle.eos_simulate.specs.steps.Passing.{HavePassed}
use Rattle.eos_simulate.proofs.replaying.take_lines.Given as goal

abbrev pub invariant-loop-line : goal.invariant-loop-line
invariant-loop-line l = IsKept l.fn.cluster l.fn.history l.cluster l.history × HavePassed l.fn.history l.history (take l.line-index l.lines)
