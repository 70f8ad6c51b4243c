use Rattle.eos_story.proofs.RowsPushed.{one_of_all}
use Rattle.eos_story.proofs.RowsTold.{found_more, in_order_whole}
use Rattle.eos_story.proofs.records.push_finds.Goals as goal

pub push_find-requires : goal.push_find-requires
push_find-requires c = one_of_all _ c.args.finds.now c.loop-find.find-index c.find-item.result c.requires c.loop-find-test.true c.find-item.is

pub loop-find-preserved : goal.loop-find-preserved
loop-find-preserved c = found_more c.args.sought.now c.args.finds.now c.loop-find.find-index c.find-item.result c.loop-find.invariant c.in_ok-push_find.ensures c.loop-find-test.true c.find-item.is

pub returns : goal.returns
returns c = in_order_whole _ c.args.finds.now c.loop-find.find-index c.loop-find.invariant c.loop-find-test.false
