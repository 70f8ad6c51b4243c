use Rattle.eos_commits.specs.steps.Lent.{plain_gathering}
use Rattle.eos_commits.proofs.FrontGathered.{stopped_part, goes_on}
use Rattle.eos_commits.proofs.gathering.gather.Goals as goal

pub returns-then-is_enough : goal.returns-then-is_enough
returns-then-is_enough c =
    let enough = c.is_enough.ensures.yes c.if-is_enough.true in
    stopped_part c.args.roles.now (plain_gathering c.take_part.new.gathering) (plain_gathering c.loop-part.gathering) c.args.parts.now c.loop-part.part-index c.part-item.result c.args.only_first
    c.loop-part-test.true c.part-item.is enough.0 enough.1 c.in_ok-take_part.ensures c.loop-part.invariant

pub loop-part-preserved : goal.loop-part-preserved
loop-part-preserved c =
    goes_on c.args.roles.now (plain_gathering c.take_part.new.gathering) (plain_gathering c.loop-part.gathering) c.args.parts.now c.loop-part.part-index c.part-item.result c.args.only_first
    c.loop-part-test.true c.part-item.is (c.is_enough.ensures.no c.if-is_enough.false) c.in_ok-take_part.ensures c.loop-part.invariant
