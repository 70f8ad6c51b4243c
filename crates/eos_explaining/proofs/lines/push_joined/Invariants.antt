use Rattle.std.proofs.Common.{◌≡◌, ◌++◌, drop, map, string_bytes}
use Rattle.eos_explaining.specs.Lines.{joined}
use Rattle.eos_explaining.proofs.lines.push_joined.Given as goal

abbrev pub invariant-loop-line : goal.invariant-loop-line
invariant-loop-line l = string_bytes l.out ++ joined (map string_bytes (drop l.line-index l.lines)) ≡ string_bytes l.fn.out ++ joined (map string_bytes l.lines)
