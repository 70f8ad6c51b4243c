-- How often what stands in a history.
use Rattle.std.specs.Prelude.{◌≡◌, Bool, true, false, List}
use Rattle.std.specs.List.{count_by}
use Rattle.eos_drive.specs.declared.deed.Deed.{Deed}
use Rattle.eos_drive.specs.declared.deed.Deed.TheVariants.{Asked, Set, Noted}
use Rattle.eos_machine.specs.declared.event.Note.{Note}
use Rattle.eos_machine.specs.declared.event.Note.TheVariants.{Lost, Repeated, Erred}
use Rattle.eos_drive.specs.declared.tally.Tally.{Tally}

-- an event
abbrev pub is_event : Deed → Bool
is_event (Asked event reply) = true
is_event (Set switches) = false
is_event (Noted note) = false

-- a message that was lost, and one that comes again or late
abbrev pub notes_loss : Note → Bool
notes_loss (Lost message) = true
notes_loss (Repeated message) = false
notes_loss (Erred mishap) = false

abbrev pub notes_repetition : Note → Bool
notes_repetition (Lost message) = false
notes_repetition (Repeated message) = true
notes_repetition (Erred mishap) = false

abbrev pub is_loss : Deed → Bool
is_loss (Asked event reply) = false
is_loss (Set switches) = false
is_loss (Noted note) = notes_loss note

abbrev pub is_repetition : Deed → Bool
is_repetition (Asked event reply) = false
is_repetition (Set switches) = false
is_repetition (Noted note) = notes_repetition note

-- what is counted: of the transactions nothing is said
pub record IsTallyOf (ds : List Deed) (t : Tally) : Type 0 where
  pub events : t.events ≡ count_by is_event ds
  pub lost : t.lost ≡ count_by is_loss ds
  pub repeated : t.repeated ≡ count_by is_repetition ds
