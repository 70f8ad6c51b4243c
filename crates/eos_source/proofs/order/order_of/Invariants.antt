use Rattle.std.proofs.Common.{◌≡◌}
use Rattle.eos_source.specs.steps.Order.{pieces_of}
use Rattle.eos_source.proofs.order.order_of.Given as goal

abbrev pub invariant-loop-turn : goal.invariant-loop-turn
invariant-loop-turn l =
    goal.iterator-loop-turn.can_next l.turn-iterator × goal.iterator-loop-turn.is_finite l.turn-iterator × (l.order.items ≡ pieces_of l.yielded)
