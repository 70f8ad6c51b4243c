use Rattle.std.proofs.Common.{◌≤◌, ◌-◌, length}
use Rattle.eos_source_check.specs.steps.Rising.{AreBelow, AreFrom}
use Rattle.eos_source_check.proofs.rising.Rising.count_below.Given as goal

abbrev pub invariant-loop-low : goal.invariant-loop-low
invariant-loop-low l = record {
  order : l.low ≤ l.high;
  within : l.high ≤ length l.self-inside.offsets.now;
  below : AreBelow l.self-inside.offsets.now l.low l.bound;
  from : AreFrom l.self-inside.offsets.now l.high l.bound;
}

abbrev pub decreases-loop-low : goal.decreases-loop-low
decreases-loop-low l = l.high - l.low
