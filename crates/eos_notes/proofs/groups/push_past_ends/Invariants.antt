use Rattle.std.proofs.Common.{◌≡◌, ◌++◌, take, map, flat_map, ℤ}
use Rattle.eos_base.specs.declared.partition_name.PartitionName.{PartitionName}
use Rattle.eos_fold.specs.Parts.{part_name}
use Rattle.eos_notes.specs.steps.Counted.{past_end_if}
use Rattle.eos_notes.proofs.groups.push_past_ends.Given as goal

abbrev pub invariant-loop-i : goal.invariant-loop-i
invariant-loop-i l = (committed : PartitionName → ℤ) → l.offsets ≡ map committed (map part_name l.parts)
    → l.all.items ≡ l.fn.all.items ++ flat_map (past_end_if l.sources l.group committed) (take l.i l.parts)
