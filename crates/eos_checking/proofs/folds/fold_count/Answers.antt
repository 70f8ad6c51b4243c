use Rattle.std.proofs.Common.{◌∙◌, sym, arith}
use Rattle.eos_checking.proofs.FoldsCounted.{counted, passed_by}
use Rattle.eos_checking.proofs.folds.fold_count.Goals as goal
use Rattle.eos_checking.proofs.folds.fold_count.Goals.{then-is_fold, else-is_fold}

pub loop-form-preserved : goal.loop-form-preserved
loop-form-preserved c =
    let forms = c.args.forms.now in
    let i = c.loop-form.form-index in
    let so_far = c.loop-form.invariant in
    elim c.if-is_fold.branch [
      | then-is_fold w ↦ (
        counted forms i _ _ _ c.loop-form-test.true (sym c.is_fold.ensures ∙ w.if-is_fold.true) so_far.0 w.count-is,
        omega (arith, so_far.1, w.count-is),
      )
      | else-is_fold w ↦ (
        passed_by forms i _ _ _ c.loop-form-test.true (sym c.is_fold.ensures ∙ w.if-is_fold.false) so_far.0 w.count-is,
        omega (arith, so_far.1, w.count-is),
      )
    ]
