use Rattle.std.proofs.Common.{length, drop, ◌≤◌, ◌-◌}
use Rattle.eos_batch.specs.Segment.{Splits}
use Rattle.eos_batch.proofs.segment.decode_segment.Given as goal

abbrev pub invariant-texts : goal.invariant-texts
invariant-texts l = record {
  splits : Splits l.bytes l.batches.items (drop l.at l.bytes);
  within : l.at ≤ length l.bytes;
}

abbrev pub decreases-texts : goal.decreases-texts
decreases-texts l = length l.bytes - l.at
