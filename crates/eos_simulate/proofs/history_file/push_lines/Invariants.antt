-- The lines that are left go behind those so far.
use Rattle.std.proofs.Common.{string_bytes}
use Rattle.eos_simulate.proofs.HistoryLines.{GoBehind}
use Rattle.eos_simulate.proofs.history_file.push_lines.Given as goal

abbrev pub invariant-loop-place : goal.invariant-loop-place
invariant-loop-place l = GoBehind (string_bytes l.fn.text) l.deeds l.place (string_bytes l.text)
