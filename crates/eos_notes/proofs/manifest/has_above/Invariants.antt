use Rattle.std.proofs.Common.{◌≡◌, drop, pos}
use Rattle.std.specs.Prelude.{int_lt}
use Rattle.std.specs.List.{list_any}
use Rattle.eos_notes.proofs.manifest.has_above.Given as goal

abbrev pub invariant-loop-number : goal.invariant-loop-number
invariant-loop-number l = list_any (int_lt (pos l.n)) l.numbers ≡ list_any (int_lt (pos l.n)) (drop l.number-index l.numbers)
