use Rattle.std.proofs.Common.{◌≡◌, ◌+◌, length}
use Rattle.eos_faults.specs.steps.Shares.{TakesRanges}
use Rattle.eos_faults.proofs.by_range.take_ranges.Given as goal

abbrev pub invariant-loop-share : goal.invariant-loop-share
invariant-loop-share g l = (l.number ≡ l.fn.first + length l.yielded) × TakesRanges g.S.FaultSink.takes l.ground.books.now l.ground.bounds.now l.fn.first l.number l.fn.sink l.sink
