use Rattle.std.proofs.Common.{◌⊎◌, length}
use Rattle.eos_base.specs.Members.{Has}
use Rattle.eos_fold.specs.declared.item.Item.{Item}
use Rattle.eos_picture.specs.Marks.{AreTrue}
use Rattle.eos_picture.specs.Whole.{ShowsRecord}
use Rattle.eos_picture.specs.steps.Kept.{Keeps}
use Rattle.eos_picture.proofs.rows.push_records.Given as goal

abbrev pub invariant-loop-item : goal.invariant-loop-item
invariant-loop-item l = record {
  true_yet : AreTrue l.part l.scene.columns.now l.fn.marks.items → AreTrue l.part l.scene.columns.now l.marks.items;
  keeps : Keeps l.fn.marks.items l.marks.items;
  inside : (x : Item) → Has l.items x → Has l.part.items x;
  shows : (x : Item) → Has l.part.items x → Has l.items x ⊎ ShowsRecord l.scene.columns.now l.marks.items x;
}

abbrev pub decreases-loop-item : goal.decreases-loop-item
decreases-loop-item l = length l.items
