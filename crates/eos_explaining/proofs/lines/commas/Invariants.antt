use Rattle.std.proofs.Common.{◌≡◌, ◌≤◌, take, length}
use Rattle.std.specs.List.{filter}
use Rattle.eos_explaining.specs.Lines.{is_comma}
use Rattle.eos_explaining.proofs.lines.commas.Given as goal

abbrev pub invariant-loop-byte : goal.invariant-loop-byte
invariant-loop-byte l = (l.count ≤ l.byte-index) × (l.count ≡ length (filter is_comma (take l.byte-index l.bytes)))
