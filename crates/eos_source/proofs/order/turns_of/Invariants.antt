use Rattle.std.proofs.Common.{◌≡◌, length, take, vec_len}
use Rattle.eos_evidence.specs.Evidence.{segments_of}
use Rattle.eos_source.specs.steps.Order.{HaveTurns}
use Rattle.eos_source.proofs.order.turns_of.Given as goal

abbrev pub invariant-loop-i : goal.invariant-loop-i
invariant-loop-i l = HaveTurns l.turns.items × (vec_len l.turns ≡ length (segments_of (take l.i l.shapes)))
