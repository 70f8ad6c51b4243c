use Rattle.std.proofs.Common.{◌≡◌, drop, map, string_bytes}
use Rattle.eos_explaining.specs.Lines.{is_said}
use Rattle.eos_explaining.proofs.lines.is_said.Given as goal

abbrev pub invariant-loop-one : goal.invariant-loop-one
invariant-loop-one l = is_said (map string_bytes (drop l.one-index l.said)) l.line ≡ is_said (map string_bytes l.said) l.line
