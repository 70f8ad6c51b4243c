use Rattle.std.specs.Vec.Iter.{into_iter_items}
use Rattle.eos_source.specs.Said.{known_by}
use Rattle.eos_source.proofs.PartitionsShared.{ToldSoFar}
use Rattle.eos_source.proofs.share.told_in_turn.Given as goal

abbrev pub invariant-loop-i : goal.invariant-loop-i
invariant-loop-i g l =
    ToldSoFar (known_by (g.S.Source.said l.plan.source.now) (g.S.Source.is_log l.plan.source.now)) l.plan.topics.now l.plan.shape.now.spec.apps l.shapes l.fn.share.slots.items l.i l.all.items (into_iter_items l.slots)
