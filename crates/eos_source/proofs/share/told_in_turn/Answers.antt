use Rattle.std.proofs.Common.{◌≤◌, ◌+◌, length, take, drop, inr, arith}
use Rattle.std.proofs.lemmas.Result.{err_from_is_err_and}
use Rattle.std.specs.Vec.Iter.{into_iter_items}
use Rattle.eos_evidence.specs.Evidence.{segments_of}
use Rattle.eos_source.specs.Said.{known_by}
use Rattle.eos_source.proofs.PartitionsShared.{partition_at, none_so_far, slots_next, one_so_far, told_so_far, passed_so_far}
use Rattle.eos_source.proofs.PartitionsTold.{here}
use Rattle.eos_source.proofs.SlotsRefused.{still_refused}
use Rattle.eos_source.proofs.share.told_in_turn.Goals as goal

pub loop-i-init : goal.loop-i-init
loop-i-init g c =
    let known = known_by (g.S.Source.said c.args.plan.now.source.now) (g.S.Source.is_log c.args.plan.now.source.now) in
    none_so_far known c.args.plan.now.topics.now c.args.plan.now.shape.now.spec.apps c.args.share.shapes.now c.args.share.slots.items _ (into_iter_items c.into_iter-slots.result) c.new-all.ensures.items c.into_iter-slots.ensures.rest

pub next_told-requires-clause-partition : goal.next_told-requires-clause-partition
next_told-requires-clause-partition g c κs within = partition_at c.args.share.shapes.now c.loop-i.i _ c.loop-i-test.true c.index-shapes-i.is c.requires.partitions

pub next_told-requires-clause-slots : goal.next_told-requires-clause-slots
next_told-requires-clause-slots g c κs within =
    let known = known_by (g.S.Source.said c.args.plan.now.source.now) (g.S.Source.is_log c.args.plan.now.source.now) in
    let shapes = c.args.share.shapes.now in
    let i = c.loop-i.i in
    let at = here shapes i c.index-shapes-i.result c.loop-i-test.true c.index-shapes-i.is in
    let r = c.requires.slots in
    (r.0, r.1 + length (segments_of (take i shapes)), segments_of (drop (i + 1) shapes), slots_next known c.args.plan.now.topics.now c.args.plan.now.shape.now.spec.apps shapes c.args.share.slots.items i c.index-shapes-i.result c.loop-i.all.items (into_iter_items c.loop-i.slots) at c.loop-i.invariant r.0 r.1 r.2)

pub loop-i-preserved : goal.loop-i-preserved
loop-i-preserved g c =
    let known = known_by (g.S.Source.said c.args.plan.now.source.now) (g.S.Source.is_log c.args.plan.now.source.now) in
    let shapes = c.args.share.shapes.now in
    let at = here shapes c.loop-i.i c.index-shapes-i.result c.loop-i-test.true c.index-shapes-i.is in
    one_so_far known c.args.plan.now.topics.now c.args.plan.now.shape.now.spec.apps shapes c.args.share.slots.items c.loop-i.i c.index-shapes-i.result c.loop-i.all.items _ _ (into_iter_items c.loop-i.slots) _ at c.loop-i.invariant
    c.in_ok-push.ensures c.in_ok-next_told.ensures.told c.in_ok-next_told.ensures.passed

pub returns : goal.returns
returns g c =
    let known = known_by (g.S.Source.said c.args.plan.now.source.now) (g.S.Source.is_log c.args.plan.now.source.now) in
    let shapes = c.args.share.shapes.now in
    let past : length shapes ≤ c.loop-i.i = omega (arith, c.loop-i-test.false) in
    record {
      each = told_so_far known c.args.plan.now.topics.now c.args.plan.now.shape.now.spec.apps shapes c.args.share.slots.items c.loop-i.i c.loop-i.all.items (into_iter_items c.loop-i.slots) past c.loop-i.invariant;
      passed = (into_iter_items c.loop-i.slots, passed_so_far known c.args.plan.now.topics.now c.args.plan.now.shape.now.spec.apps shapes c.args.share.slots.items c.loop-i.i c.loop-i.all.items (into_iter_items c.loop-i.slots) past c.loop-i.invariant);
      refused = tt;
    }

pub returns-in_err-next_told : goal.returns-in_err-next_told
returns-in_err-next_told g c =
    let p = err_from_is_err_and c.from_residual.result c.from_residual.ensures.1 in
    let piece = length (segments_of (take c.loop-i.i c.args.share.shapes.now)) in
    rw (p.1, p.2) (record { each = λ said first k. tt; passed = tt; refused = still_refused piece c.args.share.slots.items (into_iter_items c.loop-i.slots) c.in_err-next_told.field-0.0 _ c.loop-i.invariant.1 c.in_err-next_told.ensures.refused })

pub returns-in_err-push : goal.returns-in_err-push
returns-in_err-push g c =
    let p = err_from_is_err_and c.from_residual-in_err-push.result c.from_residual-in_err-push.ensures.1 in
    rw p.1 (record { each = λ said first k. tt; passed = tt; refused = inr p.2 })
