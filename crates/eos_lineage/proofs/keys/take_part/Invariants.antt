use Rattle.std.proofs.Common.{length}
use Rattle.eos_claims.specs.Outputs.{Application}
use Rattle.eos_lineage.specs.steps.Keys.{plain_keys, AreBooks, HasKeyed}
use Rattle.eos_lineage.specs.steps.Walks.{claim_at}
use Rattle.eos_lineage.proofs.SoFar.{SoFar}
use Rattle.eos_lineage.proofs.keys.take_part.Given as goal

abbrev pub invariant-loop-batch : goal.invariant-loop-batch
invariant-loop-batch l = (a : Application) → AreBooks a l.books
    → SoFar (claim_at l.output.name.now) (HasKeyed a l.books.names.now (plain_keys l.fn.keys) (plain_keys l.keys)) l.batches l.output.part.now.items

abbrev pub decreases-loop-batch : goal.decreases-loop-batch
decreases-loop-batch l = length l.batches
