use Rattle.std.proofs.Common.{◌≡◌, take, map, ℤ}
use Rattle.std.specs.List.{filter}
use Rattle.eos_base.specs.declared.partition_name.PartitionName.{PartitionName}
use Rattle.eos_fold.specs.Parts.{part_name}
use Rattle.eos_commits.specs.Applications.{is_part_of}
use Rattle.eos_notes.specs.GroupTallies.{source_tally}
use Rattle.eos_notes.proofs.group_rows.source_tallies.Given as goal

abbrev pub invariant-loop-i : goal.invariant-loop-i
invariant-loop-i l = (committed : PartitionName → ℤ) → l.offsets ≡ map committed (map part_name l.parts)
    → l.all.items ≡ map (source_tally committed) (filter (is_part_of l.sources) (take l.i l.parts))
