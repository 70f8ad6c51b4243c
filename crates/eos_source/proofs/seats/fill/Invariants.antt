use Rattle.std.specs.Prelude.{All}
use Rattle.std.specs.Vec.Iter.{into_iter_items}
use Rattle.eos_evidence.specs.Evidence.{segments_of}
use Rattle.eos_source.specs.Said.{known_by}
use Rattle.eos_source.specs.steps.Seats.{IsReading, numbers_in}
use Rattle.eos_source.specs.steps.Slots.{AreSlotsSoFar, AreFilledAsWell, IsFilled}
use Rattle.eos_source.proofs.seats.fill.Given as goal

abbrev pub invariant-loop-reading : goal.invariant-loop-reading
invariant-loop-reading g l =
    AreSlotsSoFar (known_by (g.S.Source.said l.plan.source.now) (g.S.Source.is_log l.plan.source.now)) (g.S.Source.outcomes l.plan.source.now) l.plan.topics.now l.plan.shape.now.spec.apps 0 (segments_of l.plan.shape.now.partitions) l.slots
    × All (IsReading (known_by (g.S.Source.said l.plan.source.now) (g.S.Source.is_log l.plan.source.now)) (g.S.Source.outcomes l.plan.source.now) l.plan.topics.now l.plan.shape.now.spec.apps (segments_of l.plan.shape.now.partitions)) (into_iter_items l.reading-iterator)
    × AreFilledAsWell l.fn.slots l.slots
    × All (λ n. IsFilled l.slots n) (numbers_in l.yielded)
