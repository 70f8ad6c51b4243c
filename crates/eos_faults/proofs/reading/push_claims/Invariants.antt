use Rattle.std.proofs.Common.{◌≡◌, ◌++◌, length, map, filter, flat_map}
use Rattle.eos_fold.specs.Parts.{part_name}
use Rattle.eos_lineage.specs.steps.Walks.{claim_at as claims_of_item}
use Rattle.eos_faults.specs.steps.Cuts.{IsNear}
use Rattle.eos_faults.specs.steps.Plain.{claim_at}
use Rattle.eos_faults.specs.steps.Ranges.{is_source_within}
use Rattle.eos_faults.proofs.reading.push_claims.Given as goal

-- those found, and what is left
abbrev pub invariant-loop-item : goal.invariant-loop-item
invariant-loop-item l = (map claim_at l.all.items ++ filter (is_source_within l.range) (flat_map (claims_of_item (part_name l.part)) l.records)
    ≡ map claim_at l.fn.all.items ++ filter (is_source_within l.range) (flat_map (claims_of_item (part_name l.part)) l.part.items)) × IsNear l.range l.near

abbrev pub decreases-loop-item : goal.decreases-loop-item
decreases-loop-item l = length l.records
