-- The shorter ones were run.
use Rattle.std.proofs.Common.{◌≡◌, []}
use Rattle.eos_simulate.specs.Every.{schedules_below, AreRun}
use Rattle.eos_simulate.proofs.exploring.explore_all.Given as goal

abbrev pub invariant-loop-length : goal.invariant-loop-length
invariant-loop-length g l = (l.walk.words.items ≡ []) × AreRun l.course.config (schedules_below l.length) (record { schedules = 0; states = 0 }) l.walk.explored
