use Rattle.std.proofs.Common.{◌++◌, refl, arith, sym, subst}
use Rattle.eos_fold.specs.Parts.{PartLog}
use Rattle.eos_picture.specs.Whole.{IsCovered}
use Rattle.eos_picture.proofs.TrueMarks.{has_item}
use Rattle.eos_picture.proofs.WholeRows.{covered_more, one_further, all_gone, true_both}
use Rattle.eos_picture.proofs.rows.rows_of.Goals as goal

pub push_row_to-requires : goal.push_row_to-requires
push_row_to-requires c = has_item c.args.scene.logs.now c.loop-part.part-index _ c.part-item.result c.part-item.is c.loop-part-test.true

pub loop-part-preserved : goal.loop-part-preserved
loop-part-preserved c =
    let columns = c.args.scene.columns.now in
    let logs = c.args.scene.logs.now in
    let made = c.in_ok-push_row_to.ensures in
    let now = c.push_row_to.new.rows.items ++ c.push_row_to.new.internal.items in
    record {
      true_rows = made.so c.loop-part.invariant.true_rows;
      true_internal = made.so_internal c.loop-part.invariant.true_internal;
      covered = one_further logs logs c.loop-part.part-index _ (IsCovered columns (c.loop-part.rows.items ++ c.loop-part.internal.items)) (IsCovered columns now) refl c.loop-part-test.true
          (λ p h. covered_more columns c.loop-part.rows.items c.loop-part.internal.items c.push_row_to.new.rows.items c.push_row_to.new.internal.items p made.keeps made.keeps_internal h)
          (subst (λ (z : PartLog). IsCovered columns now z) c.part-item.is made.whole) c.loop-part.invariant.covered;
    }

pub returns-clause-so : goal.returns-clause-so
returns-clause-so c = true_both c.args.scene.logs.now c.args.scene.columns.now c.append.new.self.items c.loop-part.rows.items c.loop-part.internal.items c.in_ok-append.ensures.items c.loop-part.invariant.true_rows c.loop-part.invariant.true_internal

pub returns-clause-whole : goal.returns-clause-whole
returns-clause-whole c = λ p h. subst (λ z. IsCovered c.args.scene.columns.now z p) (sym c.in_ok-append.ensures.items)
    (all_gone c.args.scene.logs.now c.args.scene.logs.now c.loop-part.part-index (IsCovered c.args.scene.columns.now (c.loop-part.rows.items ++ c.loop-part.internal.items)) refl (omega (arith, c.loop-part-test.false)) c.loop-part.invariant.covered p h)
