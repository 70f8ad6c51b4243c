use Rattle.std.proofs.Common.{◌≡◌, ℤ, length}
use Rattle.std.specs.BTreeMap.{get}
use Rattle.std.specs.Option.{option_or}
use Rattle.eos_picture.specs.Order.{last_of}
use Rattle.eos_picture.specs.steps.Standing.{by_writer}
use Rattle.eos_picture.proofs.order.lasts_of.Given as goal

-- what is left
abbrev pub invariant-loop-item : goal.invariant-loop-item
invariant-loop-item l = (w : ℤ × ℤ) → option_or (last_of l.items w) (get by_writer l.lasts w) ≡ last_of l.part.items w

abbrev pub decreases-loop-item : goal.decreases-loop-item
decreases-loop-item l = length l.items
