use Rattle.std.proofs.Common.{suc, [], ◌∷◌, sym, subst, arith}
use Rattle.std.proofs.lemmas.List.{length-append}
use Rattle.std.specs.Prelude.{All}
use Rattle.eos_source.specs.steps.Seats.{IsDesk}
use Rattle.eos_source.proofs.PiecesDrawn.{all_last}
use Rattle.eos_source.specs.SeatViews.{IsFresh}
use Rattle.eos_source.proofs.seats.desks_of.Goals as goal

pub loop-seat-preserved : goal.loop-seat-preserved
loop-seat-preserved g c =
    let tickets = c.args.tickets.now in
    let all = subst (λ xs. All (IsFresh tickets) xs) c.in-Some.ensures.steps.0 c.loop-seat.invariant.3 in
    let desk : IsDesk tickets _ = record { fresh = all 0 c.in-Some.seat (omega arith); nothing = c.in_ok-read.ensures.items; room = c.in_ok-read.ensures.capacity } in
    let desks = subst (λ xs. All (IsDesk tickets) xs) (sym c.in_ok-push.ensures.items) (all_last (IsDesk tickets) c.loop-seat.desks.items _ c.loop-seat.invariant.4 desk) in
    (tt, tt, omega (arith, c.in_ok-push.ensures.len, c.loop-seat.invariant.2, length-append c.loop-seat.yielded (c.in-Some.seat ∷ [])), λ k d lt. all (suc k) d (omega (arith, lt)), desks)
