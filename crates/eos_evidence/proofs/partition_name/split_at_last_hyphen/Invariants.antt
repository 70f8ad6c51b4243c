-- No hyphen stands from the place on.
use Rattle.std.proofs.Common.{◌≡◌, ◌≤◌, false, drop, length}
use Rattle.std.specs.List.{list_any}
use Rattle.eos_evidence.specs.PartitionNames.{is_hyphen}
use Rattle.eos_evidence.proofs.partition_name.split_at_last_hyphen.Given as goal

abbrev pub invariant-loop-at : goal.invariant-loop-at
invariant-loop-at l = record {
  within : l.at ≤ length l.name;
  none_after : list_any is_hyphen (drop l.at l.name) ≡ false;
}

abbrev pub decreases-loop-at : goal.decreases-loop-at
decreases-loop-at l = l.at
