use Rattle.std.proofs.Common.{◌≡◌, ◌<◌, length}
use Rattle.eos_source.specs.SeatViews.{drawn_of_all}
use Rattle.eos_source.specs.steps.OpenSeats.{open_seats}
use Rattle.eos_source.proofs.tickets.Tickets.gather.Given as goal

abbrev pub invariant-loop-seat : goal.invariant-loop-seat
invariant-loop-seat l =
    goal.iterator-loop-seat.can_next l.seat-iterator
    × goal.iterator-loop-seat.is_finite l.seat-iterator
    × (l.all.table_id ≡ l.self.table)
    × (l.all.me.0.parts ≡ length l.yielded)
    × (l.all.me.0.drawn ≡ drawn_of_all l.yielded)
    × (l.all.me.0.allowance ≡ open_seats l.yielded)
    × (0 < length l.yielded → l.all.me.0.count ≡ l.self.count)
