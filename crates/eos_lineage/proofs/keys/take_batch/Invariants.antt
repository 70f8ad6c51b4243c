use Rattle.std.proofs.Common.{drop}
use Rattle.eos_claims.specs.Outputs.{Application}
use Rattle.eos_lineage.specs.steps.Keys.{plain_keys, AreBooks, HasKeyed}
use Rattle.eos_lineage.specs.steps.Walks.{claim_at}
use Rattle.eos_lineage.proofs.SoFar.{SoFar}
use Rattle.eos_lineage.proofs.keys.take_batch.Given as goal

abbrev pub invariant-loop-i : goal.invariant-loop-i
invariant-loop-i l = (a : Application) → AreBooks a l.books
    → SoFar (claim_at l.name) (HasKeyed a l.books.names.now (plain_keys l.fn.keys) (plain_keys l.keys)) (drop l.i l.batch) l.batch
