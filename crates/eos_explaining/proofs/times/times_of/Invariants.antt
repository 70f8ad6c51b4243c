use Rattle.std.proofs.Common.{◌≡◌, ◌++◌, drop}
use Rattle.eos_explaining.specs.steps.Times.{known_times}
use Rattle.eos_explaining.proofs.times.times_of.Given as goal

abbrev pub invariant-loop-i : goal.invariant-loop-i
invariant-loop-i l = l.times.items ++ known_times (drop l.i l.rows) (drop l.i l.found) ≡ known_times l.rows l.found
