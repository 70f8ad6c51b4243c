use Rattle.std.proofs.Common.{◌<◌, ℕ}
use Rattle.eos_table.specs.steps.Wanted.{IsMine, AgreesAt}
use Rattle.eos_table.proofs.quick.agree_at.Given as goal

abbrev pub invariant-loop-i : goal.invariant-loop-i
invariant-loop-i l = (k : ℕ) → k < l.i → IsMine l.threads l.rest l.ground.owners.now k → AgreesAt l.ground.lists.now l.ground.parts.now k
