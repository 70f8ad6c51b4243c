use Rattle.std.proofs.Common.{◌≡◌, ◌++◌, drop}
use Rattle.eos_picture.specs.Order.{standings}
use Rattle.eos_picture.proofs.order.stands_of.Given as goal

-- what is left
abbrev pub invariant-loop-i : goal.invariant-loop-i
invariant-loop-i l = l.stands.items ++ standings l.part l.i (drop l.i l.columns) ≡ standings l.part 0 l.columns
