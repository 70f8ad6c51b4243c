use Rattle.std.proofs.Common.{◌∙◌, subst, arith, ap}
use Rattle.std.proofs.lemmas.List.{drop_all}
use Rattle.eos_wire.specs.Numbers.{IsBytes}
use Rattle.eos_batch.specs.Reading.{batch_at}
use Rattle.eos_batch.specs.declared.fault.BatchFault.TheVariants as faults
use Rattle.eos_fold.proofs.MoreBytes.{batch_none}
use Rattle.eos_reading.proofs.FoldSteps.{walked_none, walked_on, run_ends}
use Rattle.eos_reading.proofs.batch.keep_batches.Goals as goal

pub loop-at-init : goal.loop-at-init
loop-at-init g c = walked_none (g.K.Reading.kept c.args.reading.now) c.args.bytes.now c.args.heads.now.items (g.K.Kept.KeptList.list c.args.kept.now)

pub loop-at-preserved : goal.loop-at-preserved
loop-at-preserved g c =
    let fits : IsBytes c.args.bytes.now = subst IsBytes c.as_slice.ensures c.are_bytes.ensures in
    (walked_on (g.K.Reading.kept c.args.reading.now) c.args.bytes.now c.args.heads.now.items c.loop-at.heads.items c.push.new.self.items (g.K.Kept.KeptList.list c.args.kept.now) (g.K.Kept.KeptList.list c.loop-at.kept) (g.K.Kept.KeptList.list c.keep_batch.new.kept)
    c.loop-at.at c.in-Ok.head fits c.loop-at.invariant c.in-Ok.ensures.ok c.in_ok-push-in-Ok.ensures.items).0

pub overflow_add-at : goal.overflow_add-at
overflow_add-at g c =
    let fits : IsBytes c.args.bytes.now = subst IsBytes c.as_slice.ensures c.are_bytes.ensures in
    let w = walked_on (g.K.Reading.kept c.args.reading.now) c.args.bytes.now c.args.heads.now.items c.loop-at.heads.items c.push.new.self.items (g.K.Kept.KeptList.list c.args.kept.now) (g.K.Kept.KeptList.list c.loop-at.kept) (g.K.Kept.KeptList.list c.keep_batch.new.kept)
    c.loop-at.at c.in-Ok.head fits c.loop-at.invariant c.in-Ok.ensures.ok c.in_ok-push-in-Ok.ensures.items in
    omega (arith, w.0.within, c.len.ensures.value, c.len.ensures.bound)

pub loop-at-smaller : goal.loop-at-smaller
loop-at-smaller g c =
    let fits : IsBytes c.args.bytes.now = subst IsBytes c.as_slice.ensures c.are_bytes.ensures in
    let w = walked_on (g.K.Reading.kept c.args.reading.now) c.args.bytes.now c.args.heads.now.items c.loop-at.heads.items c.push.new.self.items (g.K.Kept.KeptList.list c.args.kept.now) (g.K.Kept.KeptList.list c.loop-at.kept) (g.K.Kept.KeptList.list c.keep_batch.new.kept)
    c.loop-at.at c.in-Ok.head fits c.loop-at.invariant c.in-Ok.ensures.ok c.in_ok-push-in-Ok.ensures.items in
    omega (arith, w.0.within, w.1)

pub returns : goal.returns
returns g c =
    run_ends (g.K.Reading.kept c.args.reading.now) c.args.bytes.now c.args.heads.now.items c.loop-at.heads.items (g.K.Kept.KeptList.list c.args.kept.now) (g.K.Kept.KeptList.list c.loop-at.kept) c.loop-at.at faults.Truncated c.loop-at.invariant
    (ap batch_at (drop_all c.loop-at.at c.args.bytes.now (omega (arith, c.len.ensures.value, c.loop-at-test.false))) ∙ batch_none) (λ q. cc)
