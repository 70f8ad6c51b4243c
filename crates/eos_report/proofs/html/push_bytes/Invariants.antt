use Rattle.std.proofs.Common.{◌≡◌, ◌++◌, drop, string_bytes}
use Rattle.eos_report.specs.Html.{html}
use Rattle.eos_report.proofs.html.push_bytes.Given as goal

abbrev pub invariant-loop-byte : goal.invariant-loop-byte
invariant-loop-byte l = string_bytes l.out ++ html (drop l.byte-index l.bytes) ≡ string_bytes l.fn.out ++ html l.bytes
