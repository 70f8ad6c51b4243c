-- No line feed stands so far.
use Rattle.std.proofs.Common.{◌≡◌, false, take}
use Rattle.eos_history_lines.specs.steps.Pieces.{has_feed}
use Rattle.eos_history_lines.proofs.divided.first_line.Given as goal

abbrev pub invariant-loop-i : goal.invariant-loop-i
invariant-loop-i l = has_feed (take l.i l.text) ≡ false
