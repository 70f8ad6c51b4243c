use Rattle.std.proofs.Common.{◌≡◌, take, flat_map}
use Rattle.eos_lineage.specs.steps.Walks.{output_claims, claims_of_part}
use Rattle.eos_lineage.proofs.claims.outputs_of.Given as goal

abbrev pub invariant-loop-i : goal.invariant-loop-i
invariant-loop-i l = flat_map output_claims l.outputs.items ≡ flat_map (claims_of_part l.topics) (take l.i l.parts)
