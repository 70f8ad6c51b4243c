use Rattle.std.proofs.Common.{◌≡◌, ◌++◌, length, map, filter, flat_map}
use Rattle.eos_fold.specs.Parts.{part_name}
use Rattle.eos_lineage.specs.steps.Walks.{input_at}
use Rattle.eos_faults.specs.steps.Plain.{place_at}
use Rattle.eos_faults.specs.steps.Ranges.{is_within}
use Rattle.eos_faults.proofs.reading.push_inputs.Given as goal

-- those found, and what is left
abbrev pub invariant-loop-item : goal.invariant-loop-item
invariant-loop-item l = map place_at l.all.items ++ filter (is_within l.range) (flat_map (input_at (part_name l.part)) l.records)
    ≡ map place_at l.fn.all.items ++ filter (is_within l.range) (flat_map (input_at (part_name l.part)) l.part.items)

abbrev pub decreases-loop-item : goal.decreases-loop-item
decreases-loop-item l = length l.records
