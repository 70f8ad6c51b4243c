use Rattle.std.proofs.Common.{◌≡◌, ◌≤◌, ◌<◌, false, vec_len, vec_capacity}
use Rattle.std.specs.Prelude.{All}
use Rattle.eos_evidence.specs.Evidence.{segments_of}
use Rattle.eos_source.specs.Said.{known_by}
use Rattle.eos_source.specs.steps.Order.{ordered}
use Rattle.eos_source.specs.steps.Seats.{IsReading, numbers_in}
use Rattle.eos_source.proofs.seats.read_drawn.Given as goal

abbrev pub invariant-loop : goal.invariant-loop
invariant-loop g l =
    (l.seat.of ≡ l.tickets)
    × (l.seat.is_done ≡ false)
    × (numbers_in l.read.items ≡ ordered l.order l.seat.drawn)
    × All (IsReading (known_by (g.S.Source.said l.plan.source.now) (g.S.Source.is_log l.plan.source.now)) (g.S.Source.outcomes l.plan.source.now) l.plan.topics.now l.plan.shape.now.spec.apps (segments_of l.plan.shape.now.partitions)) l.read.items
    × All (λ n. n < l.tickets.count) l.seat.drawn
    × (vec_len l.read ≡ l.counter)
    × (1 ≤ vec_capacity l.read)
