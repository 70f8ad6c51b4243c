use Rattle.std.proofs.Common.{◌≡◌, drop}
use Rattle.eos_commits.specs.steps.Settled.{are_claimed}
use Rattle.eos_commits.proofs.settled.is_batch_claimed.Given as goal

-- what is left to look through
abbrev pub invariant-loop-i : goal.invariant-loop-i
invariant-loop-i l = are_claimed (drop l.i l.batch) ≡ are_claimed l.batch
