use Rattle.std.proofs.Common.{◌≡◌, take, map}
use Rattle.eos_evidence.specs.SpecFields.{outputs_of}
use Rattle.eos_commits.specs.steps.Roles.{plain_topic}
use Rattle.eos_commits.proofs.roles.all_outputs.Given as goal

abbrev pub invariant-loop-app : goal.invariant-loop-app
invariant-loop-app l = map plain_topic l.all.items ≡ outputs_of (take l.app-index l.apps)
