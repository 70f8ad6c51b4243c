use Rattle.std.proofs.Common.{◌≡◌, ◌≤◌, ◌⊎◌}
use Rattle.eos_claims.specs.Outputs.{Application}
use Rattle.eos_lineage.specs.steps.Keys.{plain_left, AreBooks, HasTaken}
use Rattle.eos_lineage.specs.steps.Shares.{untaken, inputs_between}
use Rattle.eos_lineage.proofs.exact.take_logs.Given as goal

abbrev pub invariant-loop-i : goal.invariant-loop-i
invariant-loop-i l = (l.share.from ≤ l.i) × ((l.i ≤ l.share.until) ⊎ (l.i ≡ l.share.from))
    × ((a : Application) → AreBooks a l.books → HasTaken l.books.names.now (untaken l.share) (plain_left l.left) (inputs_between a l.books l.share.from l.i))
