use Rattle.std.proofs.Common.{arith}
use Rattle.eos_segment.proofs.PassedHeads.{next_passed, next_broken, none_left}
use Rattle.eos_segment.proofs.fed.pass_heads.Goals as goal

pub returns-in-Err : goal.returns-in-Err
returns-in-Err c = λ fed rest f.
    next_broken fed rest c.args.heads.now c.loop-head.head-index _ c.loop-head.walk c.loop-head-test.true (c.loop-head.invariant fed rest f) c.in-Err.fault
    (λ before b size is counted h. rw c.in-Err.is at (c.in_ok-fault.ensures before b size is counted h))

pub loop-head-preserved : goal.loop-head-preserved
loop-head-preserved c = λ fed rest f.
    next_passed fed rest c.args.heads.now c.loop-head.head-index _ c.loop-head.walk c.loop-head-test.true (c.loop-head.invariant fed rest f) c.pass.new.self
    (λ before b size is counted h. rw c.in_default.is at (c.in_ok-fault.ensures before b size is counted h))

pub returns : goal.returns
returns c = λ fed rest f. none_left fed rest c.args.heads.now c.loop-head.head-index c.loop-head.walk (omega (arith, c.loop-head-test.false)) (c.loop-head.invariant fed rest f)
