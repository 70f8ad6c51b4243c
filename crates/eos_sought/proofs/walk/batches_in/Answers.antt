use Rattle.eos_sought.proofs.FoldedBatches.{in_more}
use Rattle.eos_sought.proofs.walk.batches_in.Goals as goal

pub loop-head-preserved : goal.loop-head-preserved
loop-head-preserved c =
    let e = c.in_ok-after.ensures in
    in_more c.as_slice-heads.result.now c.loop-head.head-index _ c.args.wanted c.loop-head.byte c.loop-head.next c.in_ok-after.after.0 c.in_ok-after.after.1 c.at.result c.loop-head.found.items c.push_wanted.new.found.items _
    c.loop-head-test.true c.at.ensures e.0 e.1 c.in_ok-push_wanted.ensures c.loop-head.invariant
