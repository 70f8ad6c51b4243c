use Rattle.std.proofs.Common.{take, subst}
use Rattle.eos_table.specs.steps.Doubled.{AreHomes, AreIds}
use Rattle.eos_table.proofs.DoubledMore.{passed_more, doubled_more}
use Rattle.eos_table.proofs.doubled.push_doubled.Goals as goal

pub loop-mark-preserved : goal.loop-mark-preserved
loop-mark-preserved c =
    let marks = c.args.marks.now in
    let i = c.loop-mark.mark-index in
    let mark = c.mark-item.result in
    let before = take i marks in
    let passed = passed_more marks i mark c.loop-mark-test.true c.mark-item.is in
    let so_far = c.loop-mark.invariant in
    let homes = c.in_ok-take_home.ensures in
    let ids = c.in_ok-take_producer.ensures in
    record {
      faults = doubled_more c.loop-mark.faults c.take_home.new.faults c.take_producer.new.faults _ marks i mark c.loop-mark-test.true c.mark-item.is so_far.faults (homes.faults before so_far.homes) (ids.faults before so_far.ids);
      homes = subst (AreHomes c.take_home.new.homes) passed (homes.homes before so_far.homes);
      ids = subst (AreIds c.take_producer.new.producers) passed (ids.producers before so_far.ids);
    }
