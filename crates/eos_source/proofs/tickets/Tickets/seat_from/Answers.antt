use Rattle.std.proofs.Common.{rules}
use Rattle.eos_source.proofs.TicketSteps.{split_allowed}
use Rattle.eos_source.proofs.tickets.Tickets.seat_from.Goals as goal

pub split_seat-seat-requires : goal.split_seat-seat-requires
split_seat-seat-requires c = (search rules, search rules, split_allowed _ _ _ c.requires.left.0 c.requires.left.1 c.requires.left.2)
