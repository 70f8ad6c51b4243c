-- What a file of lines says: its first line, those of what was done, and the last, which may be absent.
use Rattle.std.specs.Prelude.{◌≡◌, ℕ, List, [], ◌∷◌, ◌++◌, Option, None, Some}
use Rattle.std.specs.List.{AllZip}
use Rattle.serde_json.specs.Read.{read}
use Rattle.eos_history_lines.specs.declared.line.Line.{Line}
use Rattle.eos_history_lines.specs.declared.line.Tail.{Tail}
use Rattle.eos_history_lines.specs.declared.schedule.Schedule.{Schedule}
use Rattle.eos_history_lines.specs.declared.line.Head.{Head}
use Rattle.eos_history_lines.specs.declared.line.Row.{Row}
use Rattle.eos_history_lines.specs.Lines.{head_value, line_value, tail_value, row_value}
use Rattle.eos_history_lines.specs.Names.{NamesOnce}

-- a text that reads as the first line, or as one after it, and has no member twice
abbrev pub SaysHead : List ℕ → Head → Type 0
SaysHead text h = (read text ≡ Some (head_value h)) × NamesOnce text

abbrev pub SaysRow : List ℕ → Row → Type 0
SaysRow text r = (read text ≡ Some (row_value r)) × NamesOnce text

abbrev pub SaysLine : List ℕ → Line → Type 0
SaysLine text l = (read text ≡ Some (line_value l)) × NamesOnce text

-- the one text that reads as the last line, or none
abbrev pub SaysTail : List (List ℕ) → Option Tail → Type 0
SaysTail texts None = texts ≡ []
SaysTail texts (Some t) = (text : List ℕ) × (texts ≡ text ∷ []) × (read text ≡ Some (tail_value t)) × NamesOnce text

-- these texts are the lines, each one, and then the last
pub record SayRows (texts : List (List ℕ)) (lines : List Line) (tail : Option Tail) : Type 0 where
  pub done : List (List ℕ)
  pub last : List (List ℕ)
  pub parts : texts ≡ done ++ last
  pub each : AllZip SaysLine done lines
  pub ends : SaysTail last tail

-- and before them the first
pub record IsSchedule (texts : List (List ℕ)) (s : Schedule) : Type 0 where
  pub first : List ℕ
  pub others : List (List ℕ)
  pub parts : texts ≡ first ∷ others
  pub begins : SaysHead first s.head
  pub rows : SayRows others s.lines s.tail
