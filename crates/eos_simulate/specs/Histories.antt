-- What was done to a simulated cluster, and the evidence that it leaves.
use Rattle.std.specs.Prelude.{◌≡◌, true, ⊤, Contains, List, map, Option, None, Some}
use Rattle.std.specs.List.{count_by}
use Rattle.eos_evidence.specs.Evidence.{EvidenceParts}
use Rattle.eos_machine.specs.declared.config.Config.{Config}
use Rattle.eos_machine.specs.declared.event.Reply.{Reply}
use Rattle.eos_machine.specs.declared.switches.Switches.{Switches}
use Rattle.eos_machine.specs.Switching.{none, any_on}
use Rattle.eos_machine.specs.World.{opening}
use Rattle.eos_cluster.specs.Courses.{Course}
use Rattle.eos_machine.specs.Evidences.{IsEvidenceOf}
use Rattle.eos_drive.specs.declared.deed.Deed.{Deed}
use Rattle.eos_drive.specs.declared.deed.Deed.TheVariants as done
use Rattle.eos_machine.specs.Elections.{LosesNothing}
use Rattle.eos_drive.specs.Driven.{after, Leads}
use Rattle.eos_drive.specs.Totals.{is_event, is_loss, is_repetition}
use Rattle.eos_history_lines.specs.declared.line.Deed.{Deed as SaidDeed}
use Rattle.eos_history_lines.specs.declared.line.Deed.TheVariants as said
use Rattle.eos_history_lines.specs.declared.line.Line.{Line}
use Rattle.eos_history_lines.specs.declared.line.Tail.{Tail}

-- a cluster of these sizes before any event
abbrev pub new_course : Config → Course
new_course c = record { config = c; world = opening c; switches = none; honest = true }

-- these deeds, one after the other, lead a new cluster of these sizes to a state of which this is the evidence
pub record IsLeftBy (c : Config) (deeds : List Deed) (e : EvidenceParts) : Type 0 where
  pub course : Course
  pub leads : Leads (new_course c) deeds course
  pub evidence : IsEvidenceOf course.config course.world e

-- no election among these lost a record
abbrev pub LoseNothing : Config → List Deed → Type 0
LoseNothing c deeds = LosesNothing (after (new_course c) deeds).world

-- and its switches were set to these, if any is on: the rules that it breaks are those that are asked for
abbrev pub HasBroken : Switches → List Deed → Type 0
HasBroken s deeds = any_on s ≡ true → Contains deeds (done.Set s)

-- what was done, and what a line says of it, without the replies
abbrev pub act_of : Deed → SaidDeed
act_of (done.Asked event reply) = said.Asked event None
act_of (done.Set switches) = said.Set switches
act_of (done.Noted note) = said.Noted note

abbrev pub act_said : SaidDeed → SaidDeed
act_said (said.Asked event reply) = said.Asked event None
act_said (said.Set switches) = said.Set switches
act_said (said.Noted note) = said.Noted note

abbrev pub acts_of : List Deed → List SaidDeed
acts_of ds = map act_of ds

abbrev pub acts_said : List Line → List SaidDeed
acts_said ls = map (λ l. act_said l.deed) ls

-- ---- a schedule that is run again

-- the reply, and the one that a line says
abbrev pub reply_of : Deed → Option Reply
reply_of (done.Asked event reply) = Some reply
reply_of (done.Set switches) = None
reply_of (done.Noted note) = None

abbrev pub reply_said : SaidDeed → Option Reply
reply_said (said.Asked event reply) = reply
reply_said (said.Set switches) = None
reply_said (said.Noted note) = None

-- any will do where none is said
abbrev pub Agrees : Option Reply → Option Reply → Type 0
Agrees met None = ⊤
Agrees met (Some reply) = met ≡ Some reply

-- what the line says was done, and answered as it says
pub record IsAsSaid (d : Deed) (l : Line) : Type 0 where
  pub act : act_of d ≡ act_said l.deed
  pub reply : Agrees (reply_of d) (reply_said l.deed)

-- the totals are those of what was done; of the transactions nothing is said
pub record FitsTotals (deeds : List Deed) (t : Tail) : Type 0 where
  pub events : t.events ≡ count_by is_event deeds
  pub lost : t.lost ≡ count_by is_loss deeds
  pub repeated : t.repeated ≡ count_by is_repetition deeds
