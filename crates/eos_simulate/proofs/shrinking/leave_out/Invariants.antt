-- What is left so far gives the fault; fewer lines are left to be tried.
use Rattle.std.proofs.Common.{List}
use Rattle.eos_history_lines.specs.declared.line.Deed.{Deed as SaidDeed}
use Rattle.eos_simulate.specs.Shrinking.{IsShrunk}
use Rattle.eos_simulate.proofs.shrinking.leave_out.Given as goal

abbrev pub invariant-loop-to : goal.invariant-loop-to
invariant-loop-to g l = (whole : List SaidDeed) → IsShrunk l.aim.head.config l.aim.code.now whole l.fn.shrunk.history → IsShrunk l.aim.head.config l.aim.code.now whole l.shrunk.history

abbrev pub decreases-loop-to : goal.decreases-loop-to
decreases-loop-to g l = l.to
