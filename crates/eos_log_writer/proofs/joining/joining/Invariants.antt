use Rattle.std.proofs.Common.{◌≡◌, ◌+◌, ◌-◌, ◌≤◌, drop}
use Rattle.eos_machine.specs.Grouping.{joining}
use Rattle.eos_log_writer.proofs.joining.joining.Given as goal

abbrev pub invariant-loop-i : goal.invariant-loop-i
invariant-loop-i l = (joining l.room l.first l.more ≡ l.i + joining (l.room - l.i) l.last (drop l.i l.more)) × (l.i ≤ l.room)
