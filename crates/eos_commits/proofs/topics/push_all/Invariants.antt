use Rattle.std.proofs.Common.{◌≡◌, ◌++◌, take}
use Rattle.eos_commits.proofs.topics.push_all.Given as goal

abbrev pub invariant-loop-topic : goal.invariant-loop-topic
invariant-loop-topic l = l.topics.items ≡ l.fn.topics.items ++ take l.topic-index l.more
