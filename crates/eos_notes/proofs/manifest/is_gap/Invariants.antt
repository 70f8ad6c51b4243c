use Rattle.std.proofs.Common.{◌≡◌, ◌&&◌, drop, not, pos}
use Rattle.std.specs.Prelude.{int_lt}
use Rattle.std.specs.List.{list_any}
use Rattle.std.specs.Ordering.{int_eq}
use Rattle.eos_notes.specs.ManifestNotes.{is_gap}
use Rattle.eos_notes.proofs.manifest.is_gap.Given as goal

abbrev pub invariant-loop-number : goal.invariant-loop-number
invariant-loop-number l = is_gap l.numbers l.n ≡ (not (list_any (int_eq (pos l.n)) (drop l.number-index l.numbers)) && list_any (int_lt (pos l.n)) l.numbers)
