use Rattle.std.proofs.Common.{◌≡◌, ◌+◌, [], vec_len, All}
use Rattle.eos_source.specs.SeatViews.{IsFresh}
use Rattle.eos_source.proofs.tickets.Tickets.seats_from.Given as goal

abbrev pub invariant-loop : goal.invariant-loop
invariant-loop l =
    (l.first.me.0.allowance + vec_len l.seats ≡ l.workers)
    × (vec_len l.seats ≡ l.counter)
    × (l.first.me.0.parts ≡ l.first.me.0.allowance)
    × (l.first.me.0.drawn ≡ [])
    × (l.first.me.0.count ≡ l.self.count)
    × (l.first.me.0.workers ≡ l.self.workers)
    × (l.first.table_id ≡ l.self.table)
    × All (IsFresh l.self) l.seats.items
