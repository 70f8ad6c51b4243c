use Rattle.std.proofs.Common.{◌≡◌, take, map, flat_map}
use Rattle.eos_claims.specs.Plain.{plain_place}
use Rattle.eos_lineage.specs.steps.Walks.{inputs_at}
use Rattle.eos_lineage.proofs.inputs.inputs_of.Given as goal

abbrev pub invariant-loop-i : goal.invariant-loop-i
invariant-loop-i l = map plain_place l.all.items ≡ flat_map (inputs_at l.sources) (take l.i l.parts)
