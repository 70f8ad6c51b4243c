use Rattle.std.proofs.Common.{[], ◌∷◌, ◌++◌, ◌∙◌}
use Rattle.std.proofs.lemmas.List.{replicate_more}
use Rattle.eos_machine.specs.Logs.{unseen}
use Rattle.eos_broker.proofs.partition_log.PartitionLog.new.Goals as goal

pub loop-preserved : goal.loop-preserved
loop-preserved c = c.in_ok-push.ensures.items ∙ ((λ i. c.loop.invariant i ++ c.unseen.ensures i ∷ []) ∙ replicate_more c.loop.counter unseen)
