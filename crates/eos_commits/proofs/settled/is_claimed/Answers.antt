use Rattle.std.proofs.Common.{sym, ◌∙◌}
use Rattle.eos_commits.proofs.SettledBatches.{past_batch, stopped_batch}
use Rattle.eos_commits.proofs.settled.is_claimed.Goals as goal

pub returns-then-not-is_batch_claimed : goal.returns-then-not-is_batch_claimed
returns-then-not-is_batch_claimed c = stopped_batch c.args.part.now.items c.loop-batch.batches c.in-Some.batch c.next.new.self c.in-Some.ensures.some.0 (sym c.is_batch_claimed.ensures ∙ c.if-not-is_batch_claimed.true) c.loop-batch.invariant

pub loop-batch-preserved : goal.loop-batch-preserved
loop-batch-preserved c = past_batch c.args.part.now.items c.loop-batch.batches c.in-Some.batch c.next.new.self c.in-Some.ensures.some.0 (sym c.is_batch_claimed.ensures ∙ c.if-not-is_batch_claimed.false) c.loop-batch.invariant
