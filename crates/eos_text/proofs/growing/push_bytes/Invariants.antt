use Rattle.std.proofs.Common.{◌≡◌, ◌++◌, drop, string_bytes}
use Rattle.eos_text.specs.Escaping.{escaped}
use Rattle.eos_text.proofs.growing.push_bytes.Given as goal

abbrev pub invariant-loop-byte : goal.invariant-loop-byte
invariant-loop-byte l = string_bytes l.out ++ escaped (drop l.byte-index l.bytes) ≡ string_bytes l.fn.out ++ escaped l.bytes
