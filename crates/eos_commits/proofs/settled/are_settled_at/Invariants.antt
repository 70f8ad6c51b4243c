use Rattle.std.proofs.Common.{◌≡◌, ◌<◌, ◌%◌, ℕ, true, get_or}
use Rattle.eos_fold.specs.Parts.{PartLog}
use Rattle.eos_commits.specs.steps.Settled.{is_settled}
use Rattle.eos_commits.proofs.settled.are_settled_at.Given as goal

abbrev pub invariant-loop-i : goal.invariant-loop-i
invariant-loop-i l = (k : ℕ) (d : PartLog) → k < l.i → k % l.threads ≡ l.rest → is_settled l.ground.roles.now (get_or l.ground.parts.now k d) ≡ true
