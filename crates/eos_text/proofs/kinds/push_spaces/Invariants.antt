use Rattle.std.proofs.Common.{◌≡◌, ◌++◌, ◌-◌, string_bytes}
use Rattle.eos_text.specs.Kinds.{spaces}
use Rattle.eos_text.proofs.kinds.push_spaces.Given as goal

abbrev pub invariant-loop : goal.invariant-loop
invariant-loop l = string_bytes l.out ++ spaces (l.count - l.counter) ≡ string_bytes l.fn.out ++ spaces l.count
