use Rattle.std.proofs.Common.{◌≡◌, take}
use Rattle.eos_evidence.specs.SpecFields.{outputs_of}
use Rattle.eos_evidence.proofs.application.outputs_of.Given as goal

abbrev pub invariant-loop-app : goal.invariant-loop-app
invariant-loop-app l = l.topics.items ≡ outputs_of (take l.app-index l.apps)
