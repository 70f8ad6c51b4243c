use Rattle.std.proofs.Common.{◌<◌, ℕ}
use Rattle.eos_picture.specs.Window.{IsAtPlace}
use Rattle.eos_picture.proofs.order.position_of.Given as goal

abbrev pub invariant-loop-i : goal.invariant-loop-i
invariant-loop-i l = (k : ℕ) → k < l.i → IsAtPlace l.order k l.place → ⊥
