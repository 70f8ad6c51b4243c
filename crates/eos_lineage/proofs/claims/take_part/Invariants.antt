use Rattle.std.proofs.Common.{length}
use Rattle.eos_claims.specs.Outputs.{Application}
use Rattle.eos_lineage.specs.steps.Walks.{AreTables, HasWalked, plain_walk, claim_at}
use Rattle.eos_lineage.proofs.SoFar.{SoFar}
use Rattle.eos_lineage.proofs.claims.take_part.Given as goal

abbrev pub invariant-loop-item : goal.invariant-loop-item
invariant-loop-item l = (a : Application) → AreTables a l.tables → SoFar (claim_at l.name) (HasWalked a (plain_walk l.fn.walk) (plain_walk l.walk)) l.records l.part.items

abbrev pub decreases-loop-item : goal.decreases-loop-item
decreases-loop-item l = length l.records
