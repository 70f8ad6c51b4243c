use Rattle.eos_source_check.proofs.PicksTold.{none_more}
use Rattle.eos_source_check.proofs.picks.none_found.Goals as goal

pub loop-place-preserved : goal.loop-place-preserved
loop-place-preserved c = none_more c.args.places.now c.loop-place._place-index c.loop-place.found.items c.push.new.self.items c.loop-place-test.true c.loop-place.invariant c.in_ok-push.ensures.items
