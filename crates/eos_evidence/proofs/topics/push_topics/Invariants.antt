use Rattle.std.proofs.Common.{◌≡◌, ◌++◌, take}
use Rattle.eos_evidence.proofs.topics.push_topics.Given as goal

abbrev pub invariant-loop-topic : goal.invariant-loop-topic
invariant-loop-topic l = l.all.items ≡ l.fn.all.items ++ take l.topic-index l.topics
