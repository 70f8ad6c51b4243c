use Rattle.std.proofs.Common.{refl}
use Rattle.eos_story.proofs.BatchesTold.{next_more, has_of_all}
use Rattle.eos_story.proofs.RowsTold.{in_order_whole, one_more}
use Rattle.eos_story.specs.steps.Ends.{IsFoldRow}
use Rattle.eos_story.proofs.ends.push_each.Goals as goal

pub push_segment-requires-clause-has : goal.push_segment-requires-clause-has
push_segment-requires-clause-has c = has_of_all _ c.args.folds.now c.loop-fold.fold-index c.fold-item.result c.requires.have c.loop-fold-test.true c.fold-item.is

pub loop-fold-preserved : goal.loop-fold-preserved
loop-fold-preserved c = next_more _ (IsFoldRow c.args.name.now) c.args.folds.now c.loop-fold.fold-index c.fold-item.result c.loop-fold.invariant c.in_ok-push_segment.ensures refl (one_more c.args.folds.now c.loop-fold.fold-index c.fold-item.result c.loop-fold-test.true c.fold-item.is)

pub returns : goal.returns
returns c = in_order_whole (IsFoldRow c.args.name.now) c.args.folds.now c.loop-fold.fold-index c.loop-fold.invariant c.loop-fold-test.false
