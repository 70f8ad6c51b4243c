use Rattle.std.proofs.Common.{arith}
use Rattle.eos_source.proofs.PiecesOrdered.{one_turn}
use Rattle.eos_source.proofs.order.push_turn.Goals as goal

pub returns-clause-turns : goal.returns-clause-turns
returns-clause-turns c = one_turn c.args.turns.now.items c.push.new.self.items _ c.requires (omega (arith, c.len.ensures, c.args.turns.now.ok.0)) c.in_ok-push.ensures.items
