use Rattle.eos_story.proofs.ListsLeft.{any_next}
use Rattle.eos_story.proofs.signs.is_said_complete.Goals as goal

pub loop-row-preserved : goal.loop-row-preserved
loop-row-preserved c = any_next _ c.args.rows.now c.loop-row.row-index c.row-item.result _ _ c.loop-row-test.true c.row-item.is c.in_ok-says_complete.ensures c.if-branch.false c.loop-row.invariant
