use Rattle.std.proofs.Common.{◌≡◌, take, map}
use Rattle.eos_commits.specs.steps.Roles.{sources_of, plain_source}
use Rattle.eos_commits.proofs.roles.all_sources.Given as goal

abbrev pub invariant-loop-app : goal.invariant-loop-app
invariant-loop-app l = map plain_source l.all.items ≡ sources_of (take l.app-index l.apps)
