-- Where a schedule that is run again ends since a line is answered otherwise.
use Rattle.std.specs.Prelude.{◌≡◌, ◌≢◌, ⊤, List, [], ◌∷◌, ◌++◌, Some}
use Rattle.std.specs.List.{AllZip}
use Rattle.eos_machine.specs.declared.event.Event.{Event}
use Rattle.eos_machine.specs.declared.event.Reply.{Reply}
use Rattle.eos_drive.specs.declared.deed.Deed.{Deed}
use Rattle.eos_drive.specs.declared.deed.Deed.TheVariants as done
use Rattle.eos_history_lines.specs.declared.line.Deed.TheVariants as said
use Rattle.eos_history_lines.specs.declared.line.Line.{Line}
use Rattle.eos_simulate.specs.declared.replaying.ReplayFault.{ReplayFault}
use Rattle.eos_simulate.specs.declared.replaying.ReplayFault.TheVariants.{NotAtRest, Limit, Otherwise, Totals, OutOfMemory}
use Rattle.eos_simulate.specs.Histories.{IsAsSaid}

-- the first line whose event is answered otherwise, and what is told of it: its number, its event, and the answer
pub record DiffersFirst (lines : List Line) (deeds : List Deed) (told : Line) : Type 0 where
  pub before : List Line
  pub here : Line
  pub others : List Line
  pub passed : List Deed
  pub event : Event
  pub said_reply : Reply
  pub met : Reply
  pub parts : lines ≡ before ++ here ∷ others
  pub agrees : AllZip IsAsSaid passed before
  pub done_so_far : deeds ≡ passed ++ done.Asked event met ∷ []
  pub says : here.deed ≡ said.Asked event (Some said_reply)
  pub differs : met ≢ said_reply
  pub tells : told ≡ record { number = here.number; deed = said.Asked event (Some met) }

-- of the line that is told
abbrev pub IfOtherwise : ReplayFault → (Line → Type 0) → Type 0
IfOtherwise NotAtRest P = ⊤
IfOtherwise Limit P = ⊤
IfOtherwise (Otherwise told) P = P told
IfOtherwise (Totals name said_total counted) P = ⊤
IfOtherwise OutOfMemory P = ⊤
