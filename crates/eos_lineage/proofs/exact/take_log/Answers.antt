use Rattle.std.proofs.Common.{flat_map}
use Rattle.eos_lineage.specs.steps.Keys.{below_at, plain_left, HasTaken}
use Rattle.eos_lineage.proofs.SoFar.{at_block}
use Rattle.eos_lineage.proofs.TakenInputs.{taken_then}
use Rattle.eos_lineage.proofs.exact.take_log.Goals as goal

pub loop-batch-preserved : goal.loop-batch-preserved
loop-batch-preserved c = λ ns n at.
    let u = plain_left c.args.before in
    let v = plain_left c.loop-batch.left in
    let w = plain_left c.in_ok-left.left in
    let f = below_at c.args.committed.now n in
    at_block f (HasTaken ns u v) (HasTaken ns u w) c.loop-batch.batches c.next.new.self c.args.part.now.items c.in-Some.batch
    (c.loop-batch.invariant ns n at) c.in-Some.ensures.some.0
    (λ is h. taken_then ns u v w is (flat_map f c.in-Some.batch) h (c.in_ok-left.ensures ns n at))
