-- A run of deeds, whose history is kept or isn't.
use Rattle.std.specs.Prelude.{◌≡◌, ℕ, ◌+◌, Bool, true, false, List, [], ◌∷◌, ◌++◌, Option, Some, None}
use Rattle.eos_machine.specs.World.{World}
use Rattle.eos_machine.specs.declared.state.Election.{Election}
use Rattle.eos_machine.specs.declared.event.Event.{Event}
use Rattle.eos_machine.specs.declared.event.Event.TheVariants as events
use Rattle.eos_machine.specs.declared.event.Reply.{Reply}
use Rattle.eos_machine.specs.declared.switches.Switches.{Switches}
use Rattle.eos_cluster.specs.Courses.{Course}
use Rattle.eos_drive.specs.declared.deed.Deed.{Deed}
use Rattle.eos_drive.specs.declared.deed.Deed.TheVariants.{Set, Noted}
use Rattle.eos_machine.specs.declared.event.Note.{Note}
use Rattle.eos_drive.specs.Driven.{recorded, Leads}

-- where it began, and what was kept before
pub record Origin : Type 0 where
  pub began : Course
  pub before : Option (List Deed)

-- and where it has come to
pub record Drive : Type 0 where
  pub origin : Origin
  pub course : Course

-- a history, where there is one, after further deeds, an event more, switches that were set, and a note
abbrev pub with_deeds : Option (List Deed) → List Deed → Option (List Deed)
with_deeds None ds = None
with_deeds (Some b) ds = Some (b ++ ds)

abbrev pub recorded_in : Option (List Deed) → Event → Reply → Option (List Deed)
recorded_in None e r = None
recorded_in (Some b) e r = Some (recorded b e r)

abbrev pub set_in : Option (List Deed) → Switches → Option (List Deed)
set_in None u = None
set_in (Some b) u = Some (b ++ Set u ∷ [])

abbrev pub noted_in : Option (List Deed) → Note → Option (List Deed)
noted_in None n = None
noted_in (Some b) n = Some (b ++ Noted n ∷ [])

-- some deeds led from the beginning to here, and the history is what was kept before, and they
pub record IsOnCourse (s : Course) (before : Option (List Deed)) (t : Course) (now : Option (List Deed)) : Type 0 where
  pub since : List Deed
  pub leads : Leads s since t
  pub kept : now ≡ with_deeds before since

-- how many records elections have lost
abbrev pub lost_by : List Election → ℕ
lost_by [] = 0
lost_by (x ∷ xs) = x.lost + lost_by xs

abbrev pub lost_in : World → ℕ
lost_in w = lost_by w.elections

-- a leader is elected: no other event loses a record
abbrev pub is_election : Event → Bool
is_election (events.Feed p) = false
is_election (events.Start a) = false
is_election (events.Produce n p x) = false
is_election (events.Commit n q v) = false
is_election (events.End n k) = false
is_election (events.Resume n) = false
is_election (events.Fetch n q) = false
is_election (events.Members g) = false
is_election (events.BrokerRestart t p) = false
is_election events.CoordinatorRestart = false
is_election (events.Deliver n) = false
is_election (events.TimeOut a) = false
is_election (events.AddPartition n p) = false
is_election (events.WriteMarker n) = false
is_election (events.Complete a) = false
is_election (events.Elect t p k) = true

-- events alone were asked for, by which no record was lost
abbrev pub HasAsked : Course → Drive → Course → Drive → Type 0
HasAsked s d t e = (e.origin ≡ d.origin) × (e.course ≡ t) × (t.config ≡ s.config) × (t.honest ≡ s.honest) × (lost_in t.world ≡ lost_in s.world)

-- events were asked for, and perhaps switches set
abbrev pub HasDone : Course → Drive → Course → Drive → Type 0
HasDone s d t e = (e.origin ≡ d.origin) × (e.course ≡ t) × (t.config ≡ s.config)
