use Rattle.std.proofs.Common.{arith}
use Rattle.eos_lineage.proofs.ToldKeys.{step_back}
use Rattle.eos_lineage.proofs.exact.after_steps.Goals as goal

pub loop-step-preserved : goal.loop-step-preserved
loop-step-preserved c = λ rest e. c.loop-step.invariant rest (step_back c.loop-step.left.now c.in_ok-key.rest.now rest c.loop-step.last c.in_ok-key.key.now c.args.count c.loop-step._step
    c.loop-step-test.true c.in_ok-key.ensures.cases.0 (omega (arith, c.if-key-lt1024.false, c.if-key-last.false)) e)
