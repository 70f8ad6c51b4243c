use Rattle.std.proofs.Common.{◌≡◌, take, map, filter, flat_map}
use Rattle.eos_lineage.specs.steps.Walks.{inputs_at}
use Rattle.eos_faults.specs.steps.Plain.{place_at}
use Rattle.eos_faults.specs.steps.Ranges.{is_within}
use Rattle.eos_faults.proofs.reading.inputs_of.Given as goal

abbrev pub invariant-loop-part : goal.invariant-loop-part
invariant-loop-part l = map place_at l.all.items ≡ filter (is_within l.range) (flat_map (inputs_at l.sources) (take l.part-index l.parts))
