-- A line more, if one is left.
use Rattle.std.specs.Prelude.{◌≡◌, ℕ, List, [], ◌∷◌, ◌++◌, Option, None, Some}
use Rattle.eos_history_lines.specs.declared.line.Deed.{Deed as SaidDeed}
use Rattle.eos_history_lines.specs.declared.line.Line.{Line}

abbrev pub AddsLine : ℕ → Option SaidDeed → List Line → List Line → Type 0
AddsLine number None old new = new ≡ old
AddsLine number (Some d) old new = new ≡ old ++ record { number = number; deed = d } ∷ []
