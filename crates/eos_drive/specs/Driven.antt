-- What is done to a cluster, one deed after the other, and where it leads.
use Rattle.std.specs.Prelude.{◌≡◌, Bool, true, false, ⊤, ◌&&◌, not, List, [], ◌∷◌, ◌++◌, if◌then◌else◌}
use Rattle.eos_machine.specs.declared.event.Event.{Event}
use Rattle.eos_machine.specs.declared.event.Reply.{Reply}
use Rattle.eos_machine.specs.declared.event.Reply.TheVariants.{Done, Fenced, OutOfOrder, DuplicateKept, WrongState, Busy, StaleGeneration, EpochsSpent, Unknown, OutOfMemory, Full}
use Rattle.eos_machine.specs.Switching.{any_on}
use Rattle.eos_machine.specs.Machine.{step_under}
use Rattle.eos_cluster.specs.Courses.{Course}
use Rattle.eos_drive.specs.declared.deed.Deed.{Deed}
use Rattle.eos_drive.specs.declared.deed.Deed.TheVariants.{Asked, Set, Noted}

-- ---- what is kept

-- an event was taken by any reply but those that leave everything as it was
abbrev pub is_taken : Reply → Bool
is_taken (Done n) = true
is_taken Fenced = true
is_taken OutOfOrder = true
is_taken DuplicateKept = true
is_taken WrongState = true
is_taken Busy = true
is_taken StaleGeneration = true
is_taken EpochsSpent = true
is_taken Unknown = true
is_taken OutOfMemory = false
is_taken Full = false

-- a list after one event more
abbrev pub recorded : List Deed → Event → Reply → List Deed
recorded ds e r = if is_taken r then ds ++ Asked e r ∷ [] else ds

-- ---- where it leads

-- an event is the machine's step under the switches that are set; once one was on, a cluster isn't honest any more; a note is no deed
abbrev pub after_deed : Course → Deed → Course
after_deed s (Asked e r) = record s { world = (step_under s.switches s.config s.world e).0 }
after_deed s (Set u) = record s { switches = u; honest = s.honest && not (any_on u) }
after_deed s (Noted n) = s

abbrev pub after : Course → List Deed → Course
after s [] = s
after s (d ∷ ds) = after (after_deed s d) ds

-- an event was taken, and its reply is the machine's
abbrev pub IsAnswered : Course → Deed → Type 0
IsAnswered s (Asked e r) = (r ≡ (step_under s.switches s.config s.world e).1) × (is_taken r ≡ true)
IsAnswered s (Set u) = ⊤
IsAnswered s (Noted n) = ⊤

-- each of them at its place
abbrev pub AreAnswered : Course → List Deed → Type 0
AreAnswered s [] = ⊤
AreAnswered s (d ∷ ds) = IsAnswered s d × AreAnswered (after_deed s d) ds

-- these deeds, one after the other, lead from one course to another, and their events are answered so
pub record Leads (s : Course) (ds : List Deed) (t : Course) : Type 0 where
  pub state : t ≡ after s ds
  pub answers : AreAnswered s ds

-- some deeds lead from one course to another
pub record IsDriven (s t : Course) : Type 0 where
  pub deeds : List Deed
  pub leads : Leads s deeds t

-- the deeds that were appended to a history lead from one course to another
pub record IsKept (s : Course) (before : List Deed) (t : Course) (now : List Deed) : Type 0 where
  pub since : List Deed
  pub leads : Leads s since t
  pub kept : now ≡ before ++ since
