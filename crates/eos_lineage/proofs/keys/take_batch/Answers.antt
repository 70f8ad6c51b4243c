use Rattle.eos_lineage.specs.steps.Keys.{plain_keys, HasKeyed}
use Rattle.eos_lineage.specs.steps.Walks.{claim_at}
use Rattle.eos_lineage.proofs.SoFar.{at_place}
use Rattle.eos_lineage.proofs.KeysJoined.{keyed_then}
use Rattle.eos_lineage.proofs.keys.take_batch.Goals as goal

pub loop-i-preserved : goal.loop-i-preserved
loop-i-preserved c = λ a are.
    let ns = c.args.books.now.names.now in
    let f = claim_at c.args.name.now in
    let u = plain_keys c.args.keys.now in
    let v = plain_keys c.loop-i.keys in
    let w = plain_keys c.take_look.new.keys in
    let seen = c.look.ensures in
    at_place f (HasKeyed a ns u v) (HasKeyed a ns u w) c.args.batch.now c.loop-i.i seen.0 (c.loop-i.invariant a are) seen.1
    (λ cs h. keyed_then a ns u v w cs (f seen.0) h (c.in_ok-take_look.ensures a seen.0 are seen.2))
