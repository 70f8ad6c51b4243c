use Rattle.std.proofs.Common.{◌≢◌, ◌<◌, ◌+◌, ℕ}
use Rattle.eos_table.specs.steps.Neighbours.{pair_at}
use Rattle.eos_table.proofs.look.are_apart.Given as goal

abbrev pub invariant-loop-i : goal.invariant-loop-i
invariant-loop-i l = (j : ℕ) → j + 1 < l.i → pair_at l.keys j ≢ pair_at l.keys (j + 1)
