use Rattle.std.proofs.Common.{◌≡◌, drop, Some}
use Rattle.eos_picture.specs.Titles.{time_at}
use Rattle.eos_picture.proofs.told.time_at.Given as goal

abbrev pub invariant-loop-time : goal.invariant-loop-time
invariant-loop-time l = time_at (drop l.time-index l.times) (Some l.offset) ≡ time_at l.times (Some l.offset)
