use Rattle.std.proofs.Common.{◌≡◌, length}
use Rattle.eos_commits.specs.steps.Settled.{are_claimed}
use Rattle.eos_commits.proofs.settled.is_claimed.Given as goal

-- what is left to look through
abbrev pub invariant-loop-batch : goal.invariant-loop-batch
invariant-loop-batch l = are_claimed l.batches ≡ are_claimed l.part.items

abbrev pub decreases-loop-batch : goal.decreases-loop-batch
decreases-loop-batch l = length l.batches
