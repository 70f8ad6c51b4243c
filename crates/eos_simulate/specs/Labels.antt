-- The labels of a run: what was done wrong, each with the number of its line in the history. They are a function of what was done.
use Rattle.std.specs.Prelude.{◌≡◌, ℕ, ◌+◌, ◌-◌, Bool, true, false, List, [], ◌∷◌, ◌++◌, length, slice_get, nat_lt, Option, None, Some, option_map, if◌then◌else◌}
use Rattle.eos_machine.specs.declared.event.Event.{Event}
use Rattle.eos_machine.specs.declared.event.Event.TheVariants as events
use Rattle.eos_machine.specs.declared.event.Reply.{Reply}
use Rattle.eos_machine.specs.declared.event.Reply.TheVariants as replies
use Rattle.eos_machine.specs.declared.switches.Switch.{Switch}
use Rattle.eos_machine.specs.declared.switches.Switch.TheVariants.{KeepDuplicates, NoFence, NoBump, LoseMarker, SwapMarker, HideListing, IgnoreGeneration}
use Rattle.eos_machine.specs.declared.switches.Switches.{Switches}
use Rattle.eos_cluster.specs.Breaches.{broken, log_of}
use Rattle.eos_cluster.specs.Courses.{Course}
use Rattle.eos_machine.specs.declared.config.Config.{Config}
use Rattle.eos_machine.specs.Rest.{IsAtRest}
use Rattle.eos_machine.specs.World.{World, log_at}
use Rattle.eos_machine.specs.Elections.{electable_at}
use Rattle.eos_drive.specs.Driven.{after_deed, after}
use Rattle.eos_drive.specs.declared.deed.Deed.{Deed}
use Rattle.eos_drive.specs.declared.deed.Deed.TheVariants as done
use Rattle.eos_machine.specs.declared.event.Note.{Note}
use Rattle.eos_machine.specs.declared.event.Note.TheVariants as notes
use Rattle.eos_simulate.specs.Histories.{new_course}
use Rattle.eos_simulate.specs.declared.labels.Label.{Label}
use Rattle.eos_simulate.specs.declared.labels.LostTail.{LostTail}
use Rattle.eos_simulate.specs.declared.labels.Taken.{Taken}
use Rattle.eos_simulate.specs.declared.labels.Wrong.{Wrong}
use Rattle.eos_simulate.specs.declared.labels.Wrong.TheVariants as wrongs

abbrev pub broken_if : Bool → Switch → ℕ → Taken → List Label
broken_if on rule number taken = if on then record { number = number; wrong = wrongs.Broken rule taken } ∷ [] else []

-- a label for each of these rules, which are broken where a message is taken
abbrev pub broken_labels : Switches → ℕ → Taken → List Label
broken_labels u number taken =
    broken_if u.keep_duplicates KeepDuplicates number taken ++ (broken_if u.no_fence NoFence number taken ++ (broken_if u.no_bump NoBump number taken
    ++ (broken_if u.lose_marker LoseMarker number taken ++ (broken_if u.swap_marker SwapMarker number taken
    ++ (broken_if u.hide_listing HideListing number taken ++ broken_if u.ignore_generation IgnoreGeneration number taken)))))

-- the message of number n was taken, and stands at this offset
abbrev pub taken_at : Course → ℕ → ℕ → Taken
taken_at s n offset = record { message = n; place = log_of s.config (slice_get s.world.messages n); offset = offset }

abbrev pub answer_labels : Course → ℕ → ℕ → Reply → List Label
answer_labels s number n (replies.Done offset) = broken_labels (broken s.switches s.config s.world n) number (taken_at s n offset)
answer_labels s number n replies.Fenced = []
answer_labels s number n replies.OutOfOrder = []
answer_labels s number n replies.DuplicateKept = []
answer_labels s number n replies.WrongState = []
answer_labels s number n replies.Busy = []
answer_labels s number n replies.StaleGeneration = []
answer_labels s number n replies.EpochsSpent = []
answer_labels s number n replies.Unknown = []
answer_labels s number n replies.OutOfMemory = []
answer_labels s number n replies.Full = []

-- of a partition whose log has so many records, if this isn't of them all
abbrev pub tail_labels : ℕ → LostTail → Option ℕ → List Label
tail_labels number t None = []
tail_labels number t (Some records) =
    if nat_lt t.offset records then record { number = number; wrong = wrongs.Unclean (record t { records = records - t.offset }) } ∷ [] else []

-- a leader was elected that has the records before this offset
abbrev pub election_labels : Course → ℕ → LostTail → Reply → List Label
election_labels s number t (replies.Done epoch) = tail_labels number t (option_map (λ p. length (log_at s.world p)) (electable_at s.config t.topic t.partition))
election_labels s number t replies.Fenced = []
election_labels s number t replies.OutOfOrder = []
election_labels s number t replies.DuplicateKept = []
election_labels s number t replies.WrongState = []
election_labels s number t replies.Busy = []
election_labels s number t replies.StaleGeneration = []
election_labels s number t replies.EpochsSpent = []
election_labels s number t replies.Unknown = []
election_labels s number t replies.OutOfMemory = []
election_labels s number t replies.Full = []

abbrev pub event_labels : Course → ℕ → Event → Reply → List Label
event_labels s number (events.Feed p) reply = []
event_labels s number (events.Start a) reply = []
event_labels s number (events.Produce n p x) reply = []
event_labels s number (events.Commit n q v) reply = []
event_labels s number (events.End n k) reply = []
event_labels s number (events.Resume n) reply = []
event_labels s number (events.Fetch n q) reply = []
event_labels s number (events.Members g) reply = []
event_labels s number (events.BrokerRestart t p) reply = []
event_labels s number events.CoordinatorRestart reply = []
event_labels s number (events.Deliver n) reply = answer_labels s number n reply
event_labels s number (events.TimeOut a) reply = []
event_labels s number (events.AddPartition n p) reply = []
event_labels s number (events.WriteMarker n) reply = answer_labels s number n reply
event_labels s number (events.Complete a) reply = []
event_labels s number (events.Elect t p k) reply = election_labels s number (record { topic = t; partition = p; offset = k; records = 0 }) reply

-- a mishap, and what the network lost and repeated
abbrev pub wrong_note : Note → Wrong
wrong_note (notes.Lost message) = wrongs.Lost message
wrong_note (notes.Repeated message) = wrongs.Repeated message
wrong_note (notes.Erred mishap) = wrongs.Erred mishap

-- of what was done to a cluster that is so
abbrev pub deed_labels : Course → ℕ → Deed → List Label
deed_labels s number (done.Asked event reply) = event_labels s number event reply
deed_labels s number (done.Set switches) = []
deed_labels s number (done.Noted note) = record { number = number; wrong = wrong_note note } ∷ []

-- where a run stops after so many deeds, that the cluster isn't at rest
abbrev pub AreStopLabels : Bool → World → ℕ → List Label → Type 0
AreStopLabels false w number labels = labels ≡ []
AreStopLabels true w number labels = (IsAtRest w → labels ≡ []) × ((IsAtRest w → ⊥) → labels ≡ record { number = number; wrong = wrongs.Stopped } ∷ [])

-- of these deeds, numbered from this on
abbrev pub labels_from : ℕ → Course → List Deed → List Label
labels_from number s [] = []
labels_from number s (d ∷ ds) = deed_labels s number d ++ labels_from (number + 1) (after_deed s d) ds

-- the labels of a run, which may stop before the cluster is at rest: those of its deeds, and of that
pub record AreLabelsOf (stops : Bool) (c : Config) (deeds : List Deed) (labels : List Label) : Type 0 where
  pub last : List Label
  pub whole : labels ≡ labels_from 1 (new_course c) deeds ++ last
  pub stop : AreStopLabels stops (after (new_course c) deeds).world (length deeds) last
