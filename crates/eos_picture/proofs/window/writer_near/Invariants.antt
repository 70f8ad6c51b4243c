use Rattle.std.proofs.Common.{◌≡◌, ◌<◌, ◌⊎◌, ℤ, Some, length}
use Rattle.eos_base.specs.Members.{Has}
use Rattle.eos_fold.specs.Parts.{Rises}
use Rattle.eos_fold.specs.declared.item.Item.{Item}
use Rattle.eos_picture.proofs.window.writer_near.Given as goal

abbrev pub invariant-loop-item : goal.invariant-loop-item
invariant-loop-item l = record {
  rises : Rises l.items;
  found : (x : Item) (w : ℤ × ℤ) → Has l.part.items x → x.offset ≡ l.offset → x.writer ≡ Some w → Has l.items x ⊎ ((l.near ≡ Some w) × ((y : Item) → Has l.items y → l.offset < y.offset));
}

abbrev pub decreases-loop-item : goal.decreases-loop-item
decreases-loop-item l = length l.items
