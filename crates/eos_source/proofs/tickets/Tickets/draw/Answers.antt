use Rattle.std.proofs.Common.{◌≡◌, arith, rules}
use Rattle.eos_source.proofs.TicketSteps.{draw_allowed}
use Rattle.eos_source.proofs.tickets.Tickets.draw.Goals as goal

pub fetch_add-number-requires : goal.fetch_add-number-requires
fetch_add-number-requires c =
    let same : c.seat.inside.seat.table_id ≡ c.self.inside.table.shared.table_id = search rules in
    let part : c.seat.inside.seat.me.0.parts ≡ 1 = search rules in
    let one : c.seat.inside.seat.me.0.allowance ≡ 1 = search rules in
    (same, omega (arith, c.self.invariant.0), draw_allowed _ _ _ _ part one)
