-- The batches so far stand at their offsets.
use Rattle.std.proofs.Common.{◌≤◌, ◌-◌, length}
use Rattle.eos_manifest.proofs.SegmentFronts.{Walked}
use Rattle.eos_manifest.proofs.front.front_end.Given as goal

abbrev pub invariant-loop-at : goal.invariant-loop-at
invariant-loop-at l = record {
  within : l.at ≤ length l.bytes;
  walked : Walked l.from l.bytes l.at l.next;
}

abbrev pub decreases-loop-at : goal.decreases-loop-at
decreases-loop-at l = length l.bytes - l.at
