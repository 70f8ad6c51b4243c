use Rattle.eos_machine.specs.Evidences.{end_of}
use Rattle.eos_cluster.proofs.Ranges.{map_more}
use Rattle.eos_cluster.proofs.evidence.ends.Goals as goal

pub loop-place-preserved : goal.loop-place-preserved
loop-place-preserved c = map_more (end_of c.args.store.now.config c.args.store.now.world) c.loop-place.place c.loop-place.ends.items _ c.end_at.result c.loop-place.invariant c.in_ok-push.ensures.items c.end_at.ensures
