use Rattle.std.proofs.lemmas.Result.{err_from_is_err_and}
use Rattle.eos_source.specs.Said.{known_by}
use Rattle.eos_source_check.proofs.FoldsAgain.{few, folds_there, unread_there}
use Rattle.eos_source_check.proofs.again.folds_again.Goals as goal

pub fold_again-requires-after_bounds : goal.fold_again-requires-after_bounds
fold_again-requires-after_bounds g c κs within =
    few c.args.shape.now c.partitions.result.now c.args.name.now c.in-Some.index c.in-Some.first c.index-partitions-index.result c.partitions.ensures.value c.in-Some.ensures.some c.partitions.ensures.evidence c.index-partitions-index.is

pub returns-clause-read : goal.returns-clause-read
returns-clause-read g c =
    folds_there c.args.shape.now c.partitions.result.now c.args.name.now c.in-Some.index c.in-Some.first c.index-partitions-index.result c.partitions.ensures.value c.in-Some.ensures.some
    (known_by (g.S.Source.said c.args.source.now) (g.S.Source.is_log c.args.source.now)) c.in_ok-folded.folded c.index-partitions-index.is c.in_ok-folded.ensures.ok

pub returns-in_err-folded-clause-unread : goal.returns-in_err-folded-clause-unread
returns-in_err-folded-clause-unread g c =
    let p = err_from_is_err_and c.from_residual.result c.from_residual.ensures.1 in
    rw (p.1, p.2) (unread_there c.args.shape.now c.partitions.result.now c.args.name.now c.in-Some.index c.in-Some.first c.index-partitions-index.result c.partitions.ensures.value c.in-Some.ensures.some
    (g.S.Source.outcomes c.args.source.now) c.in_err-folded.field-0.0 c.index-partitions-index.is c.in_err-folded.ensures.earned)
