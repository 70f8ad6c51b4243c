use Rattle.std.proofs.Common.{refl, subst, take, flat_map, length, ◌++◌, ◌<◌, arith}
use Rattle.eos_lineage.specs.steps.Keys.{plain_keys, no_keys, HasKeyed}
use Rattle.eos_lineage.specs.steps.Walks.{output_claims}
use Rattle.eos_lineage.proofs.KeysJoined.{keyed_then}
use Rattle.eos_lineage.proofs.PushedMore.{pieces_more}
use Rattle.eos_lineage.proofs.keys.take_first.Goals as goal

pub loop-i-preserved : goal.loop-i-preserved
loop-i-preserved c = λ a are.
    let ns = c.args.books.now.names.now in
    let os = c.args.outputs.now in
    let i = c.loop-i.i in
    let o = c.index-outputs-i.result in
    let lt : c.loop-i.i < length c.args.outputs.now = omega (arith, c.loop-i-test.true, c.min-i-end.ensures) in
    subst (HasKeyed a ns no_keys (plain_keys c.take_part.new.keys)) (pieces_more output_claims (flat_map output_claims (take i os)) (flat_map output_claims (take i os) ++ output_claims o) os i o lt c.index-outputs-i.is refl refl)
    (keyed_then a ns no_keys (plain_keys c.loop-i.keys) (plain_keys c.take_part.new.keys) (flat_map output_claims (take i os)) (output_claims o) (c.loop-i.invariant a are) (c.in_ok-take_part.ensures a are))
