use Rattle.std.proofs.Common.{arith}
use Rattle.eos_picture.specs.Window.{at_place}
use Rattle.eos_picture.proofs.Standings.{flat_next, flat_end}
use Rattle.eos_picture.proofs.chosen.columns_at.Goals as goal

pub loop-place-preserved : goal.loop-place-preserved
loop-place-preserved c =
    flat_next (at_place c.args.columns.now) c.args.places.now c.loop-place.place-index 0 c.loop-place.shown.items c.push_at.new.shown.items _ c.loop-place-test.true c.in_ok-push_at.ensures c.loop-place.invariant

pub returns : goal.returns
returns c = flat_end (at_place c.args.columns.now) c.args.places.now c.loop-place.place-index c.loop-place.shown.items _ (omega (arith, c.loop-place-test.false)) c.loop-place.invariant
