use Rattle.std.proofs.Common.{◌≡◌, ◌++◌, drop, string_bytes}
use Rattle.eos_text.specs.Kinds.{lines_text}
use Rattle.eos_text.proofs.kinds.push_lines.Given as goal

abbrev pub invariant-loop-line : goal.invariant-loop-line
invariant-loop-line l = string_bytes l.out ++ lines_text l.before (drop l.line-index l.lines) ≡ string_bytes l.fn.out ++ lines_text l.first l.lines
