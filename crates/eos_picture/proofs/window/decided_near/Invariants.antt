use Rattle.std.proofs.Common.{◌<◌, length, IfSome}
use Rattle.eos_picture.proofs.window.decided_near.Given as goal

abbrev pub invariant-loop-i : goal.invariant-loop-i
invariant-loop-i l = IfSome l.near (λ m. m < length l.columns)
