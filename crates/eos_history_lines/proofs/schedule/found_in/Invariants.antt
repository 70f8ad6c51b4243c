-- What was read so far, and what is left.
use Rattle.std.proofs.Common.{length}
use Rattle.eos_history_lines.proofs.FileLines.{Read}
use Rattle.eos_history_lines.proofs.schedule.found_in.Given as goal

abbrev pub invariant-loop-rest : goal.invariant-loop-rest
invariant-loop-rest l = Read l.text l.rest l.found.lines l.found.tail l.number

abbrev pub decreases-loop-rest : goal.decreases-loop-rest
decreases-loop-rest l = length l.rest
