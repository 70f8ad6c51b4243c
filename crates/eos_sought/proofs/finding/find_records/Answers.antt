use Rattle.std.proofs.Common.{◌∙◌}
use Rattle.eos_sought.proofs.Keeping.{parts_more}
use Rattle.eos_sought.proofs.finding.find_records.Goals as goal

pub loop-part-preserved : goal.loop-part-preserved
loop-part-preserved c = record {
  most = c.take_part.ensures.most ∙ c.loop-part.invariant.most;
  taken = parts_more c.args.sought.now c.args.logs.now c.loop-part.part-index c.part-item.result c.take_part.new.finds c.loop-part-test.true c.part-item.is (c.in_ok-take_part.ensures.taken _ c.loop-part.invariant.taken);
}
