use Rattle.std.proofs.Common.{map}
use Rattle.eos_claims.specs.Plain.{plain_place}
use Rattle.eos_lineage.specs.steps.Walks.{inputs_at}
use Rattle.eos_lineage.proofs.PushedMore.{pieces_more}
use Rattle.eos_lineage.proofs.inputs.inputs_of.Goals as goal

pub loop-i-preserved : goal.loop-i-preserved
loop-i-preserved c =
    pieces_more (inputs_at c.args.sources.now) (map plain_place c.loop-i.all.items) (map plain_place c.push_inputs.new.all.items) c.args.parts.now c.loop-i.i c.index-parts-i.result
    c.loop-i-test.true c.index-parts-i.is c.loop-i.invariant c.in_ok-push_inputs.ensures
