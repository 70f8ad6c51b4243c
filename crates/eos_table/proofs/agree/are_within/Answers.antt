use Rattle.eos_table.proofs.CloseWalks.{within_more}
use Rattle.eos_table.proofs.agree.are_within.Goals as goal

pub loop-close-preserved : goal.loop-close-preserved
loop-close-preserved c = within_more c.args.few.now c.args.many.now c.loop-close.close-index _ c.loop-close-test.true c.loop-close.invariant (c.is_at.ensures c.if-not-is_at.false)
