use Rattle.std.proofs.Common.{◌≡◌, ap, length, arith, rules}
use Rattle.std.proofs.lemmas.Result.{err_from_is_err_and}
use Rattle.eos_source.specs.Said.{known_by}
use Rattle.eos_source_check.proofs.EarnedAgain.{of_pieces}
use Rattle.eos_source_check.proofs.PicksTold.{alike_long, one_pick, all_picks}
use Rattle.eos_source_check.proofs.picks.batches_at.Goals as goal

pub put_all-requires : goal.put_all-requires
put_all-requires g c =
    let log = c.in_ok-told.ensures.ok in
    let h = c.loop-i.invariant in
    alike_long _ log.bytes h.segments c.args.places.now c.in_ok-wanted.wanted.items c.as_slice.result.now c.in_ok-told.told.items c.loop-i.found.items c.as_slice.ensures.value c.in_ok-wanted.ensures log.are h.are

pub loop-i-preserved : goal.loop-i-preserved
loop-i-preserved g c =
    one_pick (known_by (g.S.Source.said c.args.source.now) (g.S.Source.is_log c.args.source.now)) c.args.first c.as_slice-names.result.now c.loop-i.i c.index-names-i.result c.args.places.now c.loop-i.found.items c.put_all.new.found.items
    c.in_ok-told.told.items c.in_ok-wanted.wanted.items c.as_slice.result.now _ c.loop-i-test.true c.index-names-i.is c.in_ok-wanted.ensures (search rules) c.in_ok-told.ensures.ok c.as_slice.ensures.value c.put_all.ensures c.loop-i.invariant

pub returns-clause-ok : goal.returns-clause-ok
returns-clause-ok g c =
    all_picks (known_by (g.S.Source.said c.args.source.now) (g.S.Source.is_log c.args.source.now)) c.args.first c.args.shape.now c.as_slice-names.result.now c.loop-i.i c.args.places.now c.loop-i.found.items c.as_slice-names.ensures
    (omega (arith, c.loop-i-test.false)) c.loop-i.invariant

pub returns-in_err-told-clause-earned : goal.returns-in_err-told-clause-earned
returns-in_err-told-clause-earned g c =
    let p = err_from_is_err_and c.from_residual-in_err-told.result c.from_residual-in_err-told.ensures.1 in
    let count : length c.as_slice-names.result.now ≡ length c.args.shape.now.segments = ap length c.as_slice-names.ensures in
    rw (p.1, p.2) (of_pieces (g.S.Source.outcomes c.args.source.now) c.args.first (length c.args.shape.now.segments) c.loop-i.i c.in_err-told.field-0.0 (omega (arith, count, c.loop-i-test.true)) c.in_err-told.ensures.earned)
