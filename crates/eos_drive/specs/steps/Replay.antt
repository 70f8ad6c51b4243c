-- A history: the events that a cluster took, each with its reply and with the pass by which it came, as one thread that gives
-- them to a new cluster would have it.
use Rattle.std.specs.Prelude.{ℕ, List, [], ◌∷◌, ◌++◌, if◌then◌else◌}
use Rattle.eos_machine.specs.declared.event.Event.{Event}
use Rattle.eos_machine.specs.declared.event.Reply.{Reply}
use Rattle.eos_cluster.specs.Courses.{Course}
use Rattle.eos_drive.specs.declared.finished.Entry.{Entry}
use Rattle.eos_drive.specs.Driven.{is_taken}

-- the entries after a call by the pass of this number
abbrev pub recorded : List Entry → ℕ → Event → Reply → List Entry
recorded es n e r = if is_taken r then es ++ record { pass = n; event = e; reply = r } ∷ [] else es

-- what lies under the lock
pub record HistoryView : Type 0 where
  pub course : Course
  pub entries : List Entry
