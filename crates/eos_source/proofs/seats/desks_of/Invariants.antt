use Rattle.std.proofs.Common.{◌≡◌, length, vec_len}
use Rattle.std.specs.Prelude.{All}
use Rattle.std.specs.Vec.Iter.{into_iter_items}
use Rattle.eos_source.specs.steps.Seats.{IsDesk}
use Rattle.eos_source.specs.SeatViews.{IsFresh}
use Rattle.eos_source.proofs.seats.desks_of.Given as goal

abbrev pub invariant-loop-seat : goal.invariant-loop-seat
invariant-loop-seat g l =
    (goal.iterator-loop-seat g).can_next l.seat-iterator
    × (goal.iterator-loop-seat g).is_finite l.seat-iterator
    × (vec_len l.desks ≡ length l.yielded)
    × All (IsFresh l.tickets) (into_iter_items l.seat-iterator)
    × All (IsDesk l.tickets) l.desks.items
