use Rattle.std.proofs.lemmas.Result.{err_from_is_err_and}
use Rattle.eos_source.specs.Said.{known_by}
use Rattle.eos_source_check.proofs.FoldsAgain.{few, read_there, unread_there}
use Rattle.eos_source_check.proofs.PicksTold.{picked_named}
use Rattle.eos_source_check.proofs.picks.batches_again.Goals as goal

pub batches_at-requires-after_bounds : goal.batches_at-requires-after_bounds
batches_at-requires-after_bounds g c κs within =
    few c.args.shape.now c.partitions.result.now c.args.name.now c.in-Some.index c.in-Some.first c.index-partitions-index.result c.partitions.ensures.value c.in-Some.ensures.some c.partitions.ensures.evidence c.index-partitions-index.is

pub returns-clause-read : goal.returns-clause-read
returns-clause-read g c =
    let known = known_by (g.S.Source.said c.args.source.now) (g.S.Source.is_log c.args.source.now) in
    let p = c.in_ok-picked.ensures.ok in
    picked_named known c.args.shape.now.partitions c.args.name.now c.args.places.now c.in-Some.first c.index-partitions-index.result c.in_ok-picked.picked p
    (read_there c.args.shape.now c.partitions.result.now c.args.name.now c.in-Some.index c.in-Some.first c.index-partitions-index.result c.partitions.ensures.value c.in-Some.ensures.some known p.partition c.index-partitions-index.is p.again)

pub returns-in_err-picked-clause-unread : goal.returns-in_err-picked-clause-unread
returns-in_err-picked-clause-unread g c =
    let p = err_from_is_err_and c.from_residual.result c.from_residual.ensures.1 in
    rw (p.1, p.2) (unread_there c.args.shape.now c.partitions.result.now c.args.name.now c.in-Some.index c.in-Some.first c.index-partitions-index.result c.partitions.ensures.value c.in-Some.ensures.some
    (g.S.Source.outcomes c.args.source.now) c.in_err-picked.field-0.0 c.index-partitions-index.is c.in_err-picked.ensures.earned)
