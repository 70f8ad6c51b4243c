use Rattle.std.proofs.Common.{◌≡◌, length, ap, arith, refl}
use Rattle.std.proofs.lemmas.Result.{err_from_is_err_and}
use Rattle.eos_source.specs.Said.{known_by}
use Rattle.eos_source_check.proofs.EarnedAgain.{of_pieces}
use Rattle.eos_source_check.proofs.FoldsAgain.{no_folds, one_fold, all_folds}
use Rattle.eos_source_check.proofs.again.fold_again.Goals as goal

pub loop-i-init : goal.loop-i-init
loop-i-init g c = no_folds (known_by (g.S.Source.said c.args.source.now) (g.S.Source.is_log c.args.source.now)) c.args.first c.as_slice-names.result.now c.new-folds.result.items c.new-folds.ensures.items

pub loop-i-preserved : goal.loop-i-preserved
loop-i-preserved g c =
    one_fold (known_by (g.S.Source.said c.args.source.now) (g.S.Source.is_log c.args.source.now)) c.args.first c.as_slice-names.result.now c.loop-i.i c.index-names-i.result c.loop-i.folds.items _ c.in_ok-fold.fold
    c.loop-i-test.true c.index-names-i.is c.in_ok-push.ensures.items c.in_ok-fold.ensures.ok c.loop-i.invariant

pub returns-in_err-fold-clause-earned : goal.returns-in_err-fold-clause-earned
returns-in_err-fold-clause-earned g c =
    let p = err_from_is_err_and c.from_residual.result c.from_residual.ensures.1 in
    let count : length c.as_slice-names.result.now ≡ length c.args.shape.now.segments = ap length c.as_slice-names.ensures in
    rw (p.1, p.2) (of_pieces (g.S.Source.outcomes c.args.source.now) c.args.first (length c.args.shape.now.segments) c.loop-i.i c.in_err-fold.field-0.0 (omega (arith, count, c.loop-i-test.true)) c.in_err-fold.ensures.earned)

pub returns-clause-ok : goal.returns-clause-ok
returns-clause-ok g c =
    all_folds (known_by (g.S.Source.said c.args.source.now) (g.S.Source.is_log c.args.source.now)) c.args.first c.args.shape.now c.as_slice-names.result.now c.loop-i.i c.loop-i.folds.items _ c.as_slice-names.ensures
    (omega (arith, c.loop-i-test.false)) c.loop-i.invariant (λ k. record { topic = c.in_ok-clone.ensures.cases.0 k; partition = c.in_ok-clone.ensures.cases.1.0 k; end = c.in_ok-clone.ensures.cases.1.1 k }) refl
