use Rattle.std.proofs.Common.{◌≢◌, ◌⊎◌, Some, length}
use Rattle.eos_base.specs.Members.{Has}
use Rattle.eos_fold.specs.declared.item.Item.{Item}
use Rattle.eos_picture.proofs.ends.has_data.Given as goal

abbrev pub invariant-loop-item : goal.invariant-loop-item
invariant-loop-item l = (x : Item) → Has l.part.items x → Has l.items x ⊎ (x.writer ≢ Some l.writer)

abbrev pub decreases-loop-item : goal.decreases-loop-item
decreases-loop-item l = length l.items
