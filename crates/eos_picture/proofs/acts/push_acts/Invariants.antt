use Rattle.std.proofs.Common.{◌<◌, ℕ}
use Rattle.eos_picture.specs.Marks.{AreTrue}
use Rattle.eos_picture.specs.steps.Acts.{ShowsActs}
use Rattle.eos_picture.specs.steps.Kept.{Keeps}
use Rattle.eos_picture.proofs.acts.push_acts.Given as goal

abbrev pub invariant-loop-i : goal.invariant-loop-i
invariant-loop-i l = record {
  true_yet : AreTrue l.part l.scene.columns.now l.fn.marks.items → AreTrue l.part l.scene.columns.now l.marks.items;
  keeps : Keeps l.fn.marks.items l.marks.items;
  shows : (j : ℕ) → j < l.i → ShowsActs l.part l.scene.columns.now l.marks.items j;
}
