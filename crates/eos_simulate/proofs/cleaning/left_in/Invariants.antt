-- What is left so far, and what is left of the others, come to all.
use Rattle.std.proofs.Common.{◌≡◌, ◌++◌, drop}
use Rattle.eos_simulate.specs.Cleaning.{left_in}
use Rattle.eos_simulate.proofs.cleaning.left_in.Given as goal

abbrev pub invariant-loop-i : goal.invariant-loop-i
invariant-loop-i l = l.out.items ++ left_in l.base (drop l.i l.log) ≡ left_in l.base l.log
