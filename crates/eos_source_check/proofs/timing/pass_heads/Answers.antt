use Rattle.std.proofs.Common.{refl, arith}
use Rattle.eos_source_check.proofs.TimedBytes.{timing_begins, next_one, next_elsewhere, none_left}
use Rattle.eos_source_check.proofs.timing.pass_heads.Goals as goal

pub loop-head-init : goal.loop-head-init
loop-head-init c = λ batches rest going has. timing_begins c.args.buffer.now c.args.offsets.now rest c.args.heads.now c.args.timing.now batches going has

pub returns-then-head-timing : goal.returns-then-head-timing
returns-then-head-timing c = λ batches rest going has.
    next_elsewhere c.args.buffer.now c.args.offsets.now rest c.args.heads.now c.loop-head.head-index _ c.args.timing.now c.loop-head.timing _ c.loop-head.at c.loop-head-test.true (c.loop-head.invariant batches rest going has) c.if-head-timing.true refl refl refl

pub loop-head-preserved : goal.loop-head-preserved
loop-head-preserved c = λ batches rest going has.
    next_one c.args.buffer.now c.args.offsets.now rest c.args.heads.now c.loop-head.head-index _ c.args.timing.now c.loop-head.timing _ c.loop-head.at c.in_ok-after.after.0 c.loop-head-test.true (c.loop-head.invariant batches rest going has)
    c.if-head-timing.false c.in_ok-after.ensures.0 c.in_ok-after.ensures.1 c.in_ok-push_held.ensures refl

pub returns : goal.returns
returns c = λ batches rest going has.
    none_left c.args.buffer.now c.args.offsets.now rest c.args.heads.now c.loop-head.head-index c.args.timing.now c.loop-head.timing c.loop-head.at (omega (arith, c.loop-head-test.false)) (c.loop-head.invariant batches rest going has)
