use Rattle.std.proofs.Common.{◌≤◌}
use Rattle.eos_lineage.specs.steps.Shares.{Follow}
use Rattle.eos_lineage.proofs.shares.cut_shares.Given as goal

-- the shares so far
abbrev pub invariant-loop-i : goal.invariant-loop-i
invariant-loop-i l = Follow 0 l.fn.keys l.shares.items l.from l.left × (l.from ≤ l.parts)
