use Rattle.std.proofs.Common.{◌≡◌, length}
use Rattle.std.specs.Option.{option_or}
use Rattle.eos_picture.specs.Order.{last_of}
use Rattle.eos_picture.proofs.order.last_of.Given as goal

-- what is left
abbrev pub invariant-loop-item : goal.invariant-loop-item
invariant-loop-item l = option_or (last_of l.items l.writer) l.last ≡ last_of l.part.items l.writer

abbrev pub decreases-loop-item : goal.decreases-loop-item
decreases-loop-item l = length l.items
