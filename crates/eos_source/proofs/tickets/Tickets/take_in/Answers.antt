use Rattle.std.proofs.Common.{◌≡◌, arith, rules}
use Rattle.eos_source.proofs.Gathering.{join_allowed}
use Rattle.eos_source.proofs.tickets.Tickets.take_in.Goals as goal

pub join_seat-requires : goal.join_seat-requires
join_seat-requires c =
    let part : c.seat.inside.seat.me.0.parts ≡ 1 = search rules in
    (search rules, search rules, search rules, omega (arith, c.self.invariant.0), join_allowed _ _ _ _ _ (omega (arith, part)))
