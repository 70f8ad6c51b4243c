use Rattle.std.proofs.Common.{◌⊎◌, drop}
use Rattle.eos_base.specs.Members.{Has}
use Rattle.eos_fold.specs.declared.close.Close.{Close}
use Rattle.eos_picture.specs.Marks.{AreTrue}
use Rattle.eos_picture.specs.Whole.{ShowsClose}
use Rattle.eos_picture.specs.steps.Kept.{Keeps}
use Rattle.eos_picture.proofs.acts.push_closes.Given as goal

abbrev pub invariant-loop-close : goal.invariant-loop-close
invariant-loop-close l = record {
  true_yet : AreTrue l.part l.scene.columns.now l.fn.marks.items → AreTrue l.part l.scene.columns.now l.marks.items;
  keeps : Keeps l.fn.marks.items l.marks.items;
  shows : (x : Close) → Has l.part.closes x → Has (drop l.close-index l.part.closes) x ⊎ ShowsClose l.part.markers l.scene.columns.now l.marks.items x l.i;
}
