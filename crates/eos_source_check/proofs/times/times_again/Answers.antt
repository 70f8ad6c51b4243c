use Rattle.std.proofs.Common.{◌≡◌, length, ap, arith}
use Rattle.std.proofs.lemmas.Result.{err_from_is_err_and}
use Rattle.eos_source.specs.Said.{known_by}
use Rattle.eos_source_check.proofs.EarnedAgain.{refused_among}
use Rattle.eos_source_check.proofs.EachTimes.{each_begins, each_passed, each_ends}
use Rattle.eos_source_check.proofs.times.times_again.Goals as goal

pub loop-i-init : goal.loop-i-init
loop-i-init g c =
    each_begins (known_by (g.S.Source.said c.args.source.now) (g.S.Source.is_log c.args.source.now)) c.args.first c.as_slice-names.result.now c.args.offsets.now c.new-times.result.items c.new-times.ensures.items

pub loop-i-preserved : goal.loop-i-preserved
loop-i-preserved g c =
    each_passed (known_by (g.S.Source.said c.args.source.now) (g.S.Source.is_log c.args.source.now)) c.args.first c.as_slice-names.result.now c.args.offsets.now c.loop-i.i c.index-names-i.result c.begins_next.result
    c.loop-i.times.items c.in_ok-more.more.items _ c.loop-i-test.true c.index-names-i.is c.begins_next.ensures c.in_ok-more.ensures.times c.in_ok-append.ensures.items c.loop-i.invariant

pub returns-clause-times : goal.returns-clause-times
returns-clause-times g c =
    each_ends (known_by (g.S.Source.said c.args.source.now) (g.S.Source.is_log c.args.source.now)) c.args.first c.as_slice-names.result.now c.args.shape.now.segments c.args.offsets.now c.loop-i.i c.loop-i.times.items
    c.as_slice-names.ensures (omega (arith, c.loop-i-test.false)) c.loop-i.invariant

pub returns-in_err-more-clause-refused : goal.returns-in_err-more-clause-refused
returns-in_err-more-clause-refused g c =
    let p = err_from_is_err_and c.from_residual.result c.from_residual.ensures.1 in
    let count : length c.as_slice-names.result.now ≡ length c.args.shape.now.segments = ap length c.as_slice-names.ensures in
    rw (p.1, p.2) (refused_among (g.S.Source.outcomes c.args.source.now) c.args.first (length c.args.shape.now.segments) c.loop-i.i c.in_err-more.field-0.0 (omega (arith, count, c.loop-i-test.true)) c.in_err-more.ensures.refused)
