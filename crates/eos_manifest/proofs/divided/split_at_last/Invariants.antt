-- No mark stands from the place on.
use Rattle.std.proofs.Common.{◌≡◌, ◌≤◌, false, drop, length}
use Rattle.eos_manifest.specs.steps.Pieces.{has_mark}
use Rattle.eos_manifest.proofs.divided.split_at_last.Given as goal

abbrev pub invariant-loop-at : goal.invariant-loop-at
invariant-loop-at l = record {
  within : l.at ≤ length l.text;
  none_after : has_mark l.mark (drop l.at l.text) ≡ false;
}

abbrev pub decreases-loop-at : goal.decreases-loop-at
decreases-loop-at l = l.at
