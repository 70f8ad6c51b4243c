use Rattle.std.proofs.Common.{◌≡◌, ◌++◌, take, map}
use Rattle.eos_reading.specs.Names.{plain_name}
use Rattle.eos_reading.proofs.wants.push_topics.Given as goal

abbrev pub invariant-loop-topic : goal.invariant-loop-topic
invariant-loop-topic l = map plain_name l.all.items ≡ map plain_name l.fn.all.items ++ take l.topic-index l.topics
