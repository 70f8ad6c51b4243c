use Rattle.std.proofs.Common.{refl}
use Rattle.std.proofs.lemmas.List.{take_more}
use Rattle.eos_story.specs.Answers.{IsBatchRow}
use Rattle.eos_story.proofs.BatchesTold.{next_more}
use Rattle.eos_story.proofs.RowsTold.{in_order_whole}
use Rattle.eos_story.proofs.batches.push_each.Goals as goal

pub loop-placed-preserved : goal.loop-placed-preserved
loop-placed-preserved c =
    next_more _ (IsBatchRow c.args.found.now.name.now c.args.found.now.wanted) c.args.shown.now c.loop-placed.placed-index _ c.loop-placed.invariant c.in_ok-push_batch.ensures refl (take_more c.args.shown.now c.loop-placed.placed-index _ c.loop-placed-test.true)

pub returns : goal.returns
returns c = in_order_whole (IsBatchRow c.args.found.now.name.now c.args.found.now.wanted) c.args.shown.now c.loop-placed.placed-index c.loop-placed.invariant c.loop-placed-test.false
