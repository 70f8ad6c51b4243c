use Rattle.std.proofs.Common.{◌≤◌, length}
use Rattle.eos_drive.proofs.Agreeing.{Left}
use Rattle.eos_drive.proofs.shared.agrees.Given as goal

abbrev pub invariant-loop-place : goal.invariant-loop-place
invariant-loop-place l = (l.next ≤ length l.calls) × Left l.entries l.number l.calls l.place l.next
