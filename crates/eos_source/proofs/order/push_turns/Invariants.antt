use Rattle.std.proofs.Common.{◌≡◌, ◌+◌, vec_len}
use Rattle.eos_source.specs.steps.Order.{HaveTurns}
use Rattle.eos_source.proofs.order.push_turns.Given as goal

abbrev pub invariant-loop-i : goal.invariant-loop-i
invariant-loop-i l = HaveTurns l.turns.items × (vec_len l.turns ≡ vec_len l.fn.turns + l.i)
