use Rattle.std.proofs.Common.{◌-◌, length}
use Rattle.std.specs.Prelude.{⊤}
use Rattle.eos_table.proofs.agree.first_from.Given as goal

abbrev pub invariant-loop-place : goal.invariant-loop-place
invariant-loop-place l = ⊤

abbrev pub decreases-loop-place : goal.decreases-loop-place
decreases-loop-place l = length l.closes - l.place
