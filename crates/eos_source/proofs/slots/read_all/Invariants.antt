use Rattle.std.proofs.Common.{◌≡◌, vec_len, length}
use Rattle.std.specs.Prelude.{All}
use Rattle.std.specs.Vec.Iter.{into_iter_items}
use Rattle.eos_evidence.specs.Evidence.{segments_of}
use Rattle.eos_source.specs.Said.{known_by}
use Rattle.eos_source.specs.steps.Seats.{IsReading, all_numbers}
use Rattle.eos_source.specs.steps.Slots.{AreSlotsSoFar, IsFilled}
use Rattle.eos_source.proofs.slots.read_all.Given as goal

abbrev pub invariant-loop-seat : goal.invariant-loop-seat
invariant-loop-seat g l =
    (goal.iterator-loop-seat g).can_next l.seat-iterator
    × (goal.iterator-loop-seat g).is_finite l.seat-iterator
    × AreSlotsSoFar (known_by (g.S.Source.said l.plan.source.now) (g.S.Source.is_log l.plan.source.now)) (g.S.Source.outcomes l.plan.source.now) l.plan.topics.now l.plan.shape.now.spec.apps 0 (segments_of l.plan.shape.now.partitions) l.slots.items
    × (vec_len l.slots ≡ length (segments_of l.plan.shape.now.partitions))
    × All (λ seat. All (IsReading (known_by (g.S.Source.said l.plan.source.now) (g.S.Source.is_log l.plan.source.now)) (g.S.Source.outcomes l.plan.source.now) l.plan.topics.now l.plan.shape.now.spec.apps (segments_of l.plan.shape.now.partitions)) seat.items) (into_iter_items l.seat-iterator)
    × All (λ n. IsFilled l.slots.items n) (all_numbers l.yielded)
