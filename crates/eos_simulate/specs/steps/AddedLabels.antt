-- Labels that grow at their end, and an event that is done again.
use Rattle.std.specs.Prelude.{◌≡◌, ◌++◌, ℕ, List, Bool, true, false}
use Rattle.eos_machine.specs.declared.event.Reply.{Reply}
use Rattle.eos_machine.specs.declared.event.Reply.TheVariants.{Done, Fenced, OutOfOrder, DuplicateKept, WrongState, Busy, StaleGeneration, EpochsSpent, Unknown, OutOfMemory, Full}
use Rattle.eos_machine.specs.World.{World}
use Rattle.eos_simulate.specs.Labels.{AreStopLabels}
use Rattle.eos_simulate.specs.declared.labels.Label.{Label}

-- the labels are the old ones and these
pub record AddsLabels (old new more : List Label) : Type 0 where
  pub whole : new ≡ old ++ more

-- and that of a run that stops after so many deeds
pub record AddsStop (stops : Bool) (w : World) (number : ℕ) (old new : List Label) : Type 0 where
  pub last : List Label
  pub whole : new ≡ old ++ last
  pub stop : AreStopLabels stops w number last

-- an event was left out for want of memory
abbrev pub is_left_out : Reply → Bool
is_left_out (Done n) = false
is_left_out Fenced = false
is_left_out OutOfOrder = false
is_left_out DuplicateKept = false
is_left_out WrongState = false
is_left_out Busy = false
is_left_out StaleGeneration = false
is_left_out EpochsSpent = false
is_left_out Unknown = false
is_left_out OutOfMemory = true
is_left_out Full = false
