use Rattle.std.proofs.Common.{◌≡◌, take, map, filter, flat_map}
use Rattle.eos_lineage.specs.steps.Walks.{claims_of_part}
use Rattle.eos_faults.specs.steps.Plain.{claim_at}
use Rattle.eos_faults.specs.steps.Ranges.{is_source_within}
use Rattle.eos_faults.proofs.reading.claims_of.Given as goal

abbrev pub invariant-loop-part : goal.invariant-loop-part
invariant-loop-part l = map claim_at l.all.items ≡ filter (is_source_within l.range) (flat_map (claims_of_part l.outputs) (take l.part-index l.parts))
