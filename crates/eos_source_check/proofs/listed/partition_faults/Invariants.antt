use Rattle.std.proofs.Common.{◌≡◌, take}
use Rattle.std.specs.List.{slice_get}
use Rattle.eos_kept.specs.Faults.{first_of as first_of_found}
use Rattle.eos_source.specs.Said.{known_by}
use Rattle.eos_source_check.proofs.PassedAgain.{first_of, Passed}
use Rattle.eos_source_check.proofs.listed.partition_faults.Given as goal

abbrev pub invariant-loop-i : goal.invariant-loop-i
invariant-loop-i g l =
    (l.first ≡ first_of l.partitions l.i)
    × (slice_get l.list.items 0 ≡ first_of_found (take l.i l.found))
    × Passed (known_by (g.S.Source.said l.source) (g.S.Source.is_log l.source)) l.partitions l.found l.i l.list.items
