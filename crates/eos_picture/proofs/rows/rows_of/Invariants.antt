use Rattle.std.proofs.Common.{◌⊎◌, ◌++◌, drop}
use Rattle.eos_base.specs.Members.{Has}
use Rattle.eos_fold.specs.Parts.{PartLog}
use Rattle.eos_picture.specs.Marks.{HasTrueRows}
use Rattle.eos_picture.specs.Whole.{IsCovered}
use Rattle.eos_picture.proofs.rows.rows_of.Given as goal

abbrev pub invariant-loop-part : goal.invariant-loop-part
invariant-loop-part l = record {
  true_rows : HasTrueRows l.scene.logs.now l.scene.columns.now l.rows.items;
  true_internal : HasTrueRows l.scene.logs.now l.scene.columns.now l.internal.items;
  covered : (p : PartLog) → Has l.scene.logs.now p → Has (drop l.part-index l.scene.logs.now) p ⊎ IsCovered l.scene.columns.now (l.rows.items ++ l.internal.items) p;
}
