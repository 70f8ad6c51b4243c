-- A part of what was done, under other numbers of sessions, messages and inputs.
use Rattle.std.specs.Prelude.{◌≡◌, ◌⊎◌, ⊤, ℤ, pos, List, [], ◌∷◌, map, Option, None, Some}
use Rattle.eos_machine.specs.declared.item.Claim.{Claim}
use Rattle.eos_machine.specs.declared.event.Event.{Event}
use Rattle.eos_machine.specs.declared.event.Event.TheVariants as events
use Rattle.eos_drive.specs.declared.deed.Deed.{Deed}
use Rattle.eos_history_lines.specs.declared.line.Deed.{Deed as SaidDeed}
use Rattle.eos_history_lines.specs.declared.line.Deed.TheVariants as said
use Rattle.eos_machine.specs.declared.event.Note.{Note}
use Rattle.eos_machine.specs.declared.event.Note.TheVariants as notes
use Rattle.eos_history_lines.specs.declared.line.Line.{Line}
use Rattle.eos_simulate.specs.Histories.{act_of}

-- some of these, in their order
abbrev pub IsPartOf : {A : Type 0} → List A → List A → Type 0
IsPartOf [] ys = ⊤
IsPartOf (x ∷ xs) [] = ⊥
IsPartOf (x ∷ xs) (y ∷ ys) = ((x ≡ y) × IsPartOf xs ys) ⊎ IsPartOf (x ∷ xs) ys

-- a claim of an input, whichever of its partition it is
abbrev pub unplaced : Option Claim → Option Claim
unplaced None = None
unplaced (Some x) = Some (record x { offset = pos 0 })

-- an offset, whichever it is
abbrev pub unplaced_offset : Option ℤ → Option ℤ
unplaced_offset None = None
unplaced_offset (Some v) = Some (pos 0)

-- what is asked for, whatever the numbers of the session, of the message and of the input, and of the records that a new leader has
abbrev pub unnamed : Event → Event
unnamed (events.Feed p) = events.Feed p
unnamed (events.Start a) = events.Start a
unnamed (events.Produce n p x) = events.Produce 0 p (unplaced x)
unnamed (events.Commit n q v) = events.Commit 0 q (unplaced_offset v)
unnamed (events.End n k) = events.End 0 k
unnamed (events.Resume n) = events.Resume 0
unnamed (events.Fetch n q) = events.Fetch 0 q
unnamed (events.Members g) = events.Members g
unnamed (events.BrokerRestart t p) = events.BrokerRestart t p
unnamed events.CoordinatorRestart = events.CoordinatorRestart
unnamed (events.Deliver n) = events.Deliver 0
unnamed (events.TimeOut a) = events.TimeOut a
unnamed (events.AddPartition n p) = events.AddPartition 0 p
unnamed (events.WriteMarker n) = events.WriteMarker 0
unnamed (events.Complete a) = events.Complete a
unnamed (events.Elect t p k) = events.Elect t p 0

abbrev pub unnamed_note : Note → Note
unnamed_note (notes.Lost message) = notes.Lost 0
unnamed_note (notes.Repeated message) = notes.Repeated 0
unnamed_note (notes.Erred mishap) = notes.Erred mishap

-- nor the reply
abbrev pub unnamed_deed : SaidDeed → SaidDeed
unnamed_deed (said.Asked event reply) = said.Asked (unnamed event) None
unnamed_deed (said.Set switches) = said.Set switches
unnamed_deed (said.Noted note) = said.Noted (unnamed_note note)

abbrev pub unnamed_deeds : List Deed → List SaidDeed
unnamed_deeds ds = map (λ d. unnamed_deed (act_of d)) ds

abbrev pub unnamed_lines : List Line → List SaidDeed
unnamed_lines ls = map (λ l. unnamed_deed l.deed) ls
