use Rattle.std.proofs.Common.{◌≡◌}
use Rattle.eos_drive.proofs.actors.Actors.tell_mishaps.Given as goal

abbrev pub invariant-loop-place : goal.invariant-loop-place
invariant-loop-place l = l.driver ≡ l.fn.driver
