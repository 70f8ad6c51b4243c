use Rattle.std.proofs.Common.{◌≤◌, ◌-◌}
use Rattle.eos_faults.specs.steps.Shares.{TakesRanges}
use Rattle.eos_faults.proofs.by_range.faults_by_range.Given as goal

abbrev pub invariant-loop-first : goal.invariant-loop-first
invariant-loop-first g l = (l.first ≤ l.ranges) × TakesRanges g.S.FaultSink.takes l.books l.ground.bounds.now 0 l.first l.fn.sink l.sink

abbrev pub decreases-loop-first : goal.decreases-loop-first
decreases-loop-first g l = l.ranges - l.first
