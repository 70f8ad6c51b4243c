-- The text of a history's file: its first line, a line for each thing that was done, numbered from 1, and the totals.
use Rattle.std.specs.Prelude.{◌≡◌, ◌+◌, ⊤, ℕ, Bool, true, false, List, [], ◌∷◌, ◌++◌, codes, Option, None, Some}
use Rattle.serde_json.specs.Written.{compact_text}
use Rattle.eos_drive.specs.declared.deed.Deed.{Deed}
use Rattle.eos_drive.specs.declared.deed.Deed.TheVariants as done
use Rattle.eos_history_lines.specs.declared.line.Deed.{Deed as SaidDeed}
use Rattle.eos_history_lines.specs.declared.line.Deed.TheVariants as said
use Rattle.eos_history_lines.specs.declared.line.Head.{Head}
use Rattle.eos_history_lines.specs.declared.line.Line.{Line}
use Rattle.eos_history_lines.specs.declared.line.Tail.{Tail}
use Rattle.eos_history_lines.specs.Lines.{head_value, line_value, tail_value}
use Rattle.eos_simulate.specs.Histories.{FitsTotals}

-- what was done, as a line says it
abbrev pub deed_said : Deed → SaidDeed
deed_said (done.Asked event reply) = said.Asked event (Some reply)
deed_said (done.Set switches) = said.Set switches
deed_said (done.Noted note) = said.Noted note

abbrev pub head_bytes : Head → List ℕ
head_bytes h = compact_text (head_value h) ++ codes "\n"

abbrev pub line_bytes : Line → List ℕ
line_bytes l = compact_text (line_value l) ++ codes "\n"

abbrev pub tail_bytes : Tail → List ℕ
tail_bytes t = compact_text (tail_value t) ++ codes "\n"

-- a line for each, numbered from this on
abbrev pub lines_bytes : ℕ → List Deed → List ℕ
lines_bytes number [] = []
lines_bytes number (d ∷ ds) = line_bytes (record { number = number; deed = deed_said d }) ++ lines_bytes (number + 1) ds

pub record IsHistoryText (h : Head) (deeds : List Deed) (text : List ℕ) : Type 0 where
  pub tail : Tail
  pub fits : FitsTotals deeds tail
  pub says : text ≡ (head_bytes h ++ lines_bytes 1 deeds) ++ tail_bytes tail

-- where one is wanted
abbrev pub IsHistoryIf : Bool → Head → List Deed → Option (List ℕ) → Type 0
IsHistoryIf true h deeds (Some text) = IsHistoryText h deeds text
IsHistoryIf true h deeds None = ⊥
IsHistoryIf false h deeds (Some text) = ⊥
IsHistoryIf false h deeds None = ⊤
