use Rattle.std.proofs.Common.{◌≡◌, ◌-◌, length}
use Rattle.eos_notes.specs.ManifestNotes.{is_gap, least_from, least_gap}
use Rattle.eos_notes.proofs.manifest.least_gap.Given as goal

-- the numbers that are left to look at
abbrev pub invariant-loop-n : goal.invariant-loop-n
invariant-loop-n l = least_from (is_gap l.numbers) (length l.numbers - l.n) l.n ≡ least_gap l.numbers
