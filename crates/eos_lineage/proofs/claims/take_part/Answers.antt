use Rattle.eos_lineage.specs.steps.Walks.{HasWalked, plain_walk, claim_at}
use Rattle.eos_lineage.proofs.ClaimWalk.{walked_then}
use Rattle.eos_lineage.proofs.SoFar.{at_next}
use Rattle.eos_lineage.proofs.claims.take_part.Goals as goal

pub loop-item-preserved : goal.loop-item-preserved
loop-item-preserved c = λ a are.
    at_next (claim_at c.args.name.now) (HasWalked a (plain_walk c.args.walk.now) (plain_walk c.loop-item.walk)) (HasWalked a (plain_walk c.args.walk.now) (plain_walk c.take_item.new.walk))
    c.loop-item.records c.next.new.self c.args.part.now.items c.in-Some.item (c.loop-item.invariant a are) c.in-Some.ensures.some
    (λ cs h. walked_then a (plain_walk c.args.walk.now) (plain_walk c.loop-item.walk) (plain_walk c.take_item.new.walk) cs (claim_at c.args.name.now c.in-Some.item) h (c.in_ok-take_item.ensures a are))
