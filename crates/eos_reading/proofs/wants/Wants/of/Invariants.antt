use Rattle.std.proofs.Common.{◌≡◌, take, map}
use Rattle.eos_evidence.specs.SpecFields.{outputs_of}
use Rattle.eos_reading.specs.Names.{plain_name}
use Rattle.eos_reading.proofs.wants.Wants.of.Given as goal

abbrev pub invariant-loop-app : goal.invariant-loop-app
invariant-loop-app l = map plain_name l.outputs.items ≡ outputs_of (take l.app-index l.apps)
