use Rattle.std.proofs.Common.{arith}
use Rattle.std.proofs.lemmas.Result.{err_from_is_err_and}
use Rattle.eos_source.specs.Said.{known_by}
use Rattle.eos_drawing.proofs.RowTimes.{rows_more, rows_all}
use Rattle.eos_drawing.proofs.when.times_of_rows.Goals as goal

pub loop-row-preserved : goal.loop-row-preserved
loop-row-preserved g c =
    let source = c.args.source.now in
    rows_more (known_by (g.S.Source.said source) (g.S.Source.is_log source)) c.args.shape.now.partitions c.args.rows.now c.loop-row.row-index c.row-item.result c.loop-row.times.items c.push.new.self.items _ c.loop-row-test.true c.row-item.is
    c.loop-row.invariant c.in_ok-times_of_row.ensures.times c.in_ok-push.ensures.items

pub returns-clause-times : goal.returns-clause-times
returns-clause-times g c =
    let source = c.args.source.now in
    rows_all (known_by (g.S.Source.said source) (g.S.Source.is_log source)) c.args.shape.now.partitions c.args.rows.now c.loop-row.row-index c.loop-row.times.items (omega (arith, c.loop-row-test.false)) c.loop-row.invariant

pub returns-in_err-times_of_row-clause-refused : goal.returns-in_err-times_of_row-clause-refused
returns-in_err-times_of_row-clause-refused g c =
    let p = err_from_is_err_and c.from_residual.result c.from_residual.ensures.1 in
    rw (p.1, p.2) (c.in_err-times_of_row.ensures.refused)
