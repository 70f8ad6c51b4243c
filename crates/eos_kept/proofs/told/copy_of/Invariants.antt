use Rattle.std.proofs.Common.{◌≡◌, take}
use Rattle.eos_kept.proofs.told.copy_of.Given as goal

abbrev pub invariant-loop-topic : goal.invariant-loop-topic
invariant-loop-topic l = l.copy.items ≡ take l.topic-index l.topics
