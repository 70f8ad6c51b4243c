use Rattle.std.proofs.Common.{◌≤◌}
use Rattle.eos_table.proofs.owners.least_of.Given as goal

abbrev pub invariant-loop-i : goal.invariant-loop-i
invariant-loop-i l = l.least ≤ l.i
