use Rattle.std.proofs.Common.{◌≡◌, ◌++◌, map, drop}
use Rattle.eos_sought.specs.steps.Placing.{placed_at}
use Rattle.eos_sought.proofs.partition.push_placed.Given as goal

-- those put there, and those that are left
abbrev pub invariant-loop-standing : goal.invariant-loop-standing
invariant-loop-standing l = l.all.items ++ map (placed_at l.segment) (drop l.standing-index l.found) ≡ l.fn.all.items ++ map (placed_at l.segment) l.found
