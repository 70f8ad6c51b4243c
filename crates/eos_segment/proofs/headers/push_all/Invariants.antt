use Rattle.std.proofs.Common.{◌≡◌, ◌++◌, drop, flat_map, string_bytes}
use Rattle.eos_segment.specs.HeaderLines.{header_line}
use Rattle.eos_segment.proofs.headers.push_all.Given as goal

abbrev pub invariant-loop-header : goal.invariant-loop-header
invariant-loop-header l = string_bytes l.out ++ flat_map header_line (drop l.header-index l.headers) ≡ string_bytes l.fn.out ++ flat_map header_line l.headers
