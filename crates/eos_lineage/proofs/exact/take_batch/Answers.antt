use Rattle.eos_lineage.specs.steps.Keys.{below_at, plain_left, HasTaken}
use Rattle.eos_lineage.proofs.SoFar.{at_place}
use Rattle.eos_lineage.proofs.TakenInputs.{taken_then}
use Rattle.eos_lineage.proofs.exact.take_batch.Goals as goal

pub loop-i-preserved : goal.loop-i-preserved
loop-i-preserved c = λ ns n at.
    let u = plain_left c.args.before in
    let v = plain_left c.loop-i.left in
    let w = plain_left c.in_ok-left.left in
    let seen = c.look-look.ensures in
    at_place (below_at c.args.committed.now n) (HasTaken ns u v) (HasTaken ns u w) c.args.batch.now c.loop-i.i seen.0 (c.loop-i.invariant ns n at) seen.1
    (λ is h. taken_then ns u v w is (below_at c.args.committed.now n seen.0) h (c.in_ok-left.ensures ns n seen.0 at seen.2.fate seen.2.offset))
