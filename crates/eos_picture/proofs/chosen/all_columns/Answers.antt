use Rattle.std.proofs.Common.{arith}
use Rattle.eos_picture.proofs.Standings.{range_next, range_end}
use Rattle.eos_picture.proofs.chosen.all_columns.Goals as goal

pub loop-i-preserved : goal.loop-i-preserved
loop-i-preserved c = range_next c.loop-i.i c.args.count c.loop-i.places.items c.push.new.self.items _ c.loop-i-test.true c.in_ok-push.ensures.items c.loop-i.invariant

pub returns : goal.returns
returns c = range_end c.loop-i.i c.args.count c.loop-i.places.items _ (omega (arith, c.loop-i-test.false)) c.loop-i.invariant
