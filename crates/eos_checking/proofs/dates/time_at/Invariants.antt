use Rattle.std.proofs.Common.{◌≡◌, drop}
use Rattle.eos_checking.specs.Dates.{time_at}
use Rattle.eos_checking.proofs.dates.time_at.Given as goal

abbrev pub invariant-loop-time : goal.invariant-loop-time
invariant-loop-time l = time_at l.offset (drop l.time-index l.times) ≡ time_at l.offset l.times
