use Rattle.eos_picture.specs.Marks.{AreTrue}
use Rattle.eos_picture.specs.steps.Kept.{Keeps}
use Rattle.eos_picture.proofs.marks.push_spots.Given as goal

abbrev pub invariant-loop-spot : goal.invariant-loop-spot
invariant-loop-spot l = record {
  true_yet : AreTrue l.part l.scene.columns.now l.fn.marks.items → AreTrue l.part l.scene.columns.now l.marks.items;
  keeps : Keeps l.fn.marks.items l.marks.items;
}
