use Rattle.std.proofs.Common.{◌≡◌, ◌++◌, take, map}
use Rattle.eos_commits.specs.steps.Roles.{plain_topic}
use Rattle.eos_commits.proofs.roles.push_topics.Given as goal

abbrev pub invariant-loop-topic : goal.invariant-loop-topic
invariant-loop-topic l = map plain_topic l.all.items ≡ map plain_topic l.fn.all.items ++ take l.topic-index l.topics
