use Rattle.std.proofs.Common.{arith}
use Rattle.std.proofs.Math.ListN.{length-set}
use Rattle.eos_fold.proofs.FatesSet.{shift_step}
use Rattle.eos_fold.proofs.indexes.Indexes.shift.Goals as goal

pub loop-place-preserved : goal.loop-place-preserved
loop-place-preserved c = record {
  moved = shift_step c.args.by c.args.self.now.list c.loop-place.place-items c.loop-place.place-index (omega (arith, c.loop-place-test.true, c.loop-place.invariant.all, c.loop-place.auto.place-items)) c.loop-place.invariant.all c.loop-place.invariant.moved;
  all = simp length-set c.loop-place.invariant.all;
}
