-- What is left so far gives the fault; chunks get smaller.
use Rattle.eos_simulate.specs.Parts.{unnamed_lines}
use Rattle.eos_simulate.specs.Shrinking.{IsShrunk}
use Rattle.eos_simulate.proofs.shrinking.shrink.Given as goal

abbrev pub invariant-loop-size : goal.invariant-loop-size
invariant-loop-size g l = IsShrunk l.schedule.head.config l.code (unnamed_lines l.schedule.lines) l.shrunk.history

abbrev pub decreases-loop-size : goal.decreases-loop-size
decreases-loop-size g l = l.size
