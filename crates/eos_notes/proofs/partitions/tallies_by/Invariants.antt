use Rattle.std.proofs.Common.{◌≡◌, map, take}
use Rattle.std.specs.Ordering.{nat_cmp}
use Rattle.std.specs.Cmp.Lexicographic.{slice_cmp}
use Rattle.eos_base.specs.Members.{is_found}
use Rattle.eos_notes.specs.PartitionTallies.{roles_by}
use Rattle.eos_notes.specs.TalliesByLogs.{beside, partition_tally}
use Rattle.eos_notes.proofs.partitions.tallies_by.Given as goal

abbrev pub invariant-loop-i : goal.invariant-loop-i
invariant-loop-i l = l.all.items ≡ map (partition_tally (roles_by (is_found (slice_cmp nat_cmp) l.sources) (is_found (slice_cmp nat_cmp) l.outputs)))
    (take l.i (beside l.parts l.faults l.counted))
