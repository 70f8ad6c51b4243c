use Rattle.eos_source_check.specs.steps.PicksAgain.{byte_in}
use Rattle.eos_source_check.proofs.PicksTold.{map_next}
use Rattle.eos_source_check.proofs.picks.bytes_in.Goals as goal

pub loop-place-preserved : goal.loop-place-preserved
loop-place-preserved c =
    map_next (byte_in _) c.args.places.now c.loop-place.place-index _ c.byte_in.result c.loop-place.bytes.items c.push.new.self.items c.loop-place-test.true c.byte_in.ensures c.loop-place.invariant c.in_ok-push.ensures.items
