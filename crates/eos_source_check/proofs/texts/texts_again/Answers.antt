use Rattle.std.proofs.lemmas.Result.{err_from_is_err_and}
use Rattle.eos_kept.proofs.PartsHeld.{same_end}
use Rattle.eos_source.specs.Said.{known_by}
use Rattle.eos_source_check.proofs.FoldsAgain.{few, inside, stands, unread_there}
use Rattle.eos_source_check.proofs.TextsAgain.{is_partition, named_texts}
use Rattle.eos_source_check.proofs.texts.texts_again.Goals as goal

pub texts_of-requires-clause-few : goal.texts_of-requires-clause-few
texts_of-requires-clause-few g c = λ κs within.
    few c.args.shape.now c.partitions.result.now c.args.name.now c.in-Some.index c.in-Some.first c.index-partitions-index.result c.partitions.ensures.value c.in-Some.ensures.some c.partitions.ensures.evidence c.index-partitions-index.is

pub returns-in_err-run-clause-unread : goal.returns-in_err-run-clause-unread
returns-in_err-run-clause-unread g c =
    let p = err_from_is_err_and c.from_residual.result c.from_residual.ensures.1 in
    rw (p.1, p.2) (unread_there c.args.shape.now c.partitions.result.now c.args.name.now c.in-Some.index c.in-Some.first c.index-partitions-index.result c.partitions.ensures.value c.in-Some.ensures.some
    (g.S.Source.outcomes c.args.source.now) c.in_err-run.field-0.0 c.index-partitions-index.is c.in_err-run.ensures.earned)

pub returns-clause-read : goal.returns-clause-read
returns-clause-read g c =
    let e = c.args.shape.now in
    let shapes = c.partitions.result.now in
    let name = c.args.name.now in
    let p = c.index-partitions-index.result in
    let end = c.in-Ok.end in
    let found = c.in-Some.ensures.some in
    let of = c.partitions.ensures.value in
    let at = stands e shapes name c.in-Some.index c.in-Some.first p of found c.index-partitions-index.is in
    let own = is_partition e shapes c.in-Some.index p of c.partitions.ensures.evidence (inside e shapes name c.in-Some.index c.in-Some.first p of found) c.index-partitions-index.is in
    let same = same_end end p.end c.in-Ok.ensures.cases.0 c.in-Ok.ensures.cases.1.0 c.in-Ok.ensures.cases.1.1 in
    named_texts (known_by (g.S.Source.said c.args.source.now) (g.S.Source.is_log c.args.source.now)) e.partitions name c.in-Some.index c.in-Some.first p end c.in_ok-run.run' c.in_ok-told.told found at own same c.in_ok-run.ensures.ok c.in_ok-told.ensures
