use Rattle.std.proofs.Common.{◌≡◌, ◌-◌, ◌+◌, suc, arith, refl, ◌∙◌}
use Rattle.eos_simulate.proofs.CleanedLogs.{all_logged, one_logged}
use Rattle.eos_simulate.proofs.cleaning.push_batches.Goals as goal

pub returns-in-Err : goal.returns-in-Err
returns-in-Err c = all_logged _ _ _ _ _ _ (c.in_ok-batch.ensures.read ∙ c.in-Err.is) c.loop.invariant.so_far

pub loop-preserved : goal.loop-preserved
loop-preserved c =
    let more : c.len-end.result - c.loop.counter ≡ suc (c.len-end.result - (c.loop.counter + 1)) = omega (arith, c.loop-test.true) in
    let further = rw c.in-Ok.is at c.in_ok-batch.ensures.further in
    record {
      inside = further.1;
      so_far = one_logged _ _ _ _ _ _ _ _ _ _ _ more (c.in_ok-batch.ensures.read ∙ c.in-Ok.is) refl c.in_ok-push_batch-in-Ok.ensures c.loop.invariant.so_far;
    }
