-- Why a file of lines is refused: the first line that is, counted from 1. Those before it are lines of a history.
use Rattle.std.specs.Prelude.{◌≡◌, ◌≢◌, ◌⊎◌, ℕ, ◌+◌, ◌-◌, ◌^◌, min, List, [], ◌∷◌, ◌++◌, length, Option, None, Some, IsUtf8}
use Rattle.serde_json.specs.Read.{read}
use Rattle.eos_history_lines.specs.declared.fault.LineFault.{LineFault}
use Rattle.eos_history_lines.specs.declared.fault.LineFault.TheVariants.{NotJson, Mistaken, OutOfMemory}
use Rattle.eos_history_lines.specs.declared.mistake.Mistake.TheVariants.{AfterTail}
use Rattle.eos_history_lines.specs.declared.line.Head.{Head}
use Rattle.eos_history_lines.specs.declared.line.Line.{Line}
use Rattle.eos_history_lines.specs.declared.line.Tail.{Tail}
use Rattle.eos_history_lines.specs.declared.line.Row.{Row}
use Rattle.eos_history_lines.specs.declared.schedule.ScheduleFault.{ScheduleFault}
use Rattle.eos_history_lines.specs.Fits.{FitsRow}
use Rattle.eos_history_lines.specs.Files.{SayRows, SaysHead, SaysRow}

-- a text that is no JSON, where that is said, and is no first line
pub record IsNoHead (text : List ℕ) (f : LineFault) : Type 0 where
  pub json : f ≡ NotJson → IsUtf8 text → read text ≡ None
  pub none : f ≢ OutOfMemory → IsUtf8 text → (head : Head) → ¬ SaysHead text head

-- and one that is no line after it
pub record IsNoRow (text : List ℕ) (f : LineFault) : Type 0 where
  pub json : f ≡ NotJson → IsUtf8 text → read text ≡ None
  pub none : f ≢ OutOfMemory → IsUtf8 text → (row : Row) → FitsRow row → ¬ SaysRow text row

-- after the last line there is none
abbrev pub IsRefusedAfter : Option Tail → List ℕ → LineFault → Type 0
IsRefusedAfter None text f = IsNoRow text f
IsRefusedAfter (Some t) text f = f ≡ Mistaken AfterTail

-- of the lines after the first: the first that is refused
pub record IsRefusedAmong (texts : List (List ℕ)) (f : ScheduleFault) : Type 0 where
  pub before : List (List ℕ)
  pub here : List ℕ
  pub others : List (List ℕ)
  pub lines : List Line
  pub tail : Option Tail
  pub parts : texts ≡ before ++ here ∷ others
  pub rows : SayRows before lines tail
  -- its number, as far as it fits 64 bits
  pub number : f.line ≡ min (2 + length before) (2 ^ 64 - 1)
  pub refused : IsRefusedAfter tail here f.fault

-- the first line is refused, or there is none
abbrev pub IsRefusedFirst : List (List ℕ) → ScheduleFault → Type 0
IsRefusedFirst [] f = f.fault ≡ NotJson
IsRefusedFirst (text ∷ texts) f = IsNoHead text f.fault

-- the first line is read, and one after it is refused
pub record IsRefusedLater (texts : List (List ℕ)) (f : ScheduleFault) : Type 0 where
  pub first : List ℕ
  pub others : List (List ℕ)
  pub head : Head
  pub parts : texts ≡ first ∷ others
  pub begins : SaysHead first head
  pub among : IsRefusedAmong others f

abbrev pub IsRefusal : List (List ℕ) → ScheduleFault → Type 0
IsRefusal texts f = ((f.line ≡ 1) × IsRefusedFirst texts f) ⊎ IsRefusedLater texts f
