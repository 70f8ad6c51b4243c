use Rattle.std.proofs.Common.{◌≡◌, take}
use Rattle.eos_commits.specs.SourceTopics.{sources_of}
use Rattle.eos_commits.proofs.topics.sources_of.Given as goal

abbrev pub invariant-loop-app : goal.invariant-loop-app
invariant-loop-app l = l.topics.items ≡ sources_of (take l.app-index l.apps)
