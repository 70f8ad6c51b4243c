use Rattle.std.proofs.Common.{Some, None, inr, arith}
use Rattle.eos_picture.proofs.WholeRows.{middle_step, middle_end}
use Rattle.eos_picture.proofs.window.middle_of.Goals as goal

pub returns-in-Some-clause-of : goal.returns-in-Some-clause-of
returns-in-Some-clause-of c = λ at h. middle_step c.args.logs.now c.args.columns.now c.args.spots.now c.loop-spot.spot-index _ c.spot-item.result (Some c.in-Some.middle) at c.spot-item.is c.in-Some.ensures.of (c.loop-spot.invariant at h) h

pub loop-spot-preserved : goal.loop-spot-preserved
loop-spot-preserved c = λ at h. inr (middle_step c.args.logs.now c.args.columns.now c.args.spots.now c.loop-spot.spot-index _ c.spot-item.result None at c.spot-item.is c.in_default.ensures.of (c.loop-spot.invariant at h) h)

pub returns-clause-of : goal.returns-clause-of
returns-clause-of c = λ at h. middle_end c.args.logs.now c.args.columns.now c.args.spots.now c.loop-spot.spot-index at (omega (arith, c.loop-spot-test.false)) (c.loop-spot.invariant at h) h
