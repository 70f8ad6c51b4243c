use Rattle.std.proofs.Common.{flat_map}
use Rattle.eos_lineage.specs.steps.Keys.{plain_keys, HasKeyed}
use Rattle.eos_lineage.specs.steps.Walks.{claim_at}
use Rattle.eos_lineage.proofs.SoFar.{at_block}
use Rattle.eos_lineage.proofs.KeysJoined.{keyed_then}
use Rattle.eos_lineage.proofs.keys.take_part.Goals as goal

pub loop-batch-preserved : goal.loop-batch-preserved
loop-batch-preserved c = λ a are.
    let ns = c.args.books.now.names.now in
    let f = claim_at c.args.output.now.name.now in
    let u = plain_keys c.args.keys.now in
    let v = plain_keys c.loop-batch.keys in
    let w = plain_keys c.take_batch.new.keys in
    at_block f (HasKeyed a ns u v) (HasKeyed a ns u w) c.loop-batch.batches c.next.new.self c.args.output.now.part.now.items c.in-Some.batch
    (c.loop-batch.invariant a are) c.in-Some.ensures.some.0
    (λ cs h. keyed_then a ns u v w cs (flat_map f c.in-Some.batch) h (c.in_ok-take_batch.ensures a are))
