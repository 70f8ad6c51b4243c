use Rattle.eos_text.proofs.KindsListed.{one_more, none_left}
use Rattle.eos_text.proofs.kinds.push_spaces.Goals as goal

pub loop-preserved : goal.loop-preserved
loop-preserved c = one_more _ _ _ c.args.count c.loop.counter c.loop-test.true c.in_ok-push_text.ensures c.loop.invariant

pub returns : goal.returns
returns c = record { whole = none_left _ _ c.args.count c.loop.counter c.loop-test.false c.loop.invariant }
