-- What is left so far gives the fault; it gets smaller, or nothing more is left out.
use Rattle.std.proofs.Common.{List}
use Rattle.eos_history_lines.specs.declared.line.Deed.{Deed as SaidDeed}
use Rattle.eos_simulate.specs.Shrinking.{IsShrunk}
use Rattle.eos_simulate.proofs.shrinking.leave_each.Given as goal

abbrev pub invariant-loop-before : goal.invariant-loop-before
invariant-loop-before g l = (whole : List SaidDeed) → IsShrunk l.aim.head.config l.aim.code.now whole l.fn.shrunk.history → IsShrunk l.aim.head.config l.aim.code.now whole l.shrunk.history

abbrev pub decreases-loop-before : goal.decreases-loop-before
decreases-loop-before g l = l.before
