use Rattle.std.proofs.Common.{◌≡◌, ◌++◌, take, map}
use Rattle.eos_commits.specs.steps.Roles.{plain_source, sources_under}
use Rattle.eos_commits.proofs.roles.push_sources.Given as goal

abbrev pub invariant-loop-topic : goal.invariant-loop-topic
invariant-loop-topic l = map plain_source l.all.items ≡ map plain_source l.fn.all.items ++ sources_under l.group (take l.topic-index l.topics)
