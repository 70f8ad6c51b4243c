use Rattle.std.proofs.Common.{sym, subst, arith}
use Rattle.std.specs.Prelude.{All}
use Rattle.eos_source.specs.SeatViews.{IsFresh}
use Rattle.eos_source.proofs.PiecesDrawn.{all_last}
use Rattle.eos_source.proofs.tickets.Tickets.seats_from.Goals as goal

pub loop-preserved : goal.loop-preserved
loop-preserved c =
    let i = c.loop.invariant in
    let first = c.seat_from.ensures.first in
    let less = c.seat_from.ensures.less in
    let seats = subst (λ xs. All (IsFresh c.args.self.now) xs) (sym c.in_ok-push.ensures.items) (all_last (IsFresh c.args.self.now) c.loop.seats.items _ i.7 c.seat_from.ensures.seat) in
    (omega (arith, less.0, c.in_ok-push.ensures.len, i.0), omega (arith, c.in_ok-push.ensures.len, i.1), less.1, less.2, first.1, first.2, first.0, seats)
