-- Lines that were passed so far, and the one that was answered otherwise.
use Rattle.std.specs.Prelude.{◌≡◌, ◌≢◌, ⊤, List, [], ◌∷◌, ◌++◌, Some}
use Rattle.std.specs.List.{AllZip}
use Rattle.eos_machine.specs.declared.event.Event.{Event}
use Rattle.eos_machine.specs.declared.event.Reply.{Reply}
use Rattle.eos_drive.specs.declared.deed.Deed.{Deed}
use Rattle.eos_drive.specs.declared.deed.Deed.TheVariants as done
use Rattle.eos_history_lines.specs.declared.line.Deed.TheVariants as said
use Rattle.eos_history_lines.specs.declared.line.Line.{Line}
use Rattle.eos_simulate.specs.declared.replaying.ReplayFault.{ReplayFault}
use Rattle.eos_simulate.specs.declared.replaying.ReplayFault.TheVariants.{NotAtRest, Limit, Otherwise, Totals, OutOfMemory}
use Rattle.eos_simulate.specs.Histories.{IsAsSaid}

-- no line is told
abbrev pub IsOther : ReplayFault → Type 0
IsOther NotAtRest = ⊤
IsOther Limit = ⊤
IsOther (Otherwise told) = ⊥
IsOther (Totals name said_total counted) = ⊤
IsOther OutOfMemory = ⊤

-- each of these lines was done, and answered as it says
pub record HavePassed (before now : List Deed) (lines : List Line) : Type 0 where
  pub since : List Deed
  pub kept : now ≡ before ++ since
  pub each : AllZip IsAsSaid since lines

-- one was
pub record HasPassed (before now : List Deed) (line : Line) : Type 0 where
  pub deed : Deed
  pub kept : now ≡ before ++ deed ∷ []
  pub says : IsAsSaid deed line

-- one was done, and answered otherwise than it says
pub record HasDiffered (before now : List Deed) (line told : Line) : Type 0 where
  pub event : Event
  pub said_reply : Reply
  pub met : Reply
  pub kept : now ≡ before ++ done.Asked event met ∷ []
  pub says : line.deed ≡ said.Asked event (Some said_reply)
  pub differs : met ≢ said_reply
  pub tells : told ≡ record { number = line.number; deed = said.Asked event (Some met) }

-- the first of these lines that was
pub record DiffersAfter (before : List Deed) (lines : List Line) (now : List Deed) (told : Line) : Type 0 where
  pub passed : List Line
  pub here : Line
  pub others : List Line
  pub middle : List Deed
  pub parts : lines ≡ passed ++ here ∷ others
  pub agrees : HavePassed before middle passed
  pub last : HasDiffered middle now here told
