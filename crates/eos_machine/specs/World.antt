-- The state of a cluster: its logs, and what its members hold in memory.
use Rattle.std.specs.Prelude.{ℕ, ◌+◌, Bool, true, false, not, List, [], ◌∷◌, ◌++◌, map, replicate, slice_index_or, slice_set, if◌then◌else◌}
use Rattle.std.specs.List.{filter}
use Rattle.eos_batch.specs.declared.marker.Kind.{Kind}
use Rattle.eos_machine.specs.declared.switches.Switches.{Switches}
use Rattle.eos_machine.specs.LogIndexes.{Config, application_count, group_count, group_of, txn_index, log_count, is_odd_output}
pub use Rattle.eos_machine.specs.declared.item.Claim.{Claim}
pub use Rattle.eos_machine.specs.declared.item.Status.{Status}
pub use Rattle.eos_machine.specs.declared.item.Status.TheVariants.{Empty, Ongoing, Prepare, Complete}
pub use Rattle.eos_machine.specs.declared.item.Entry.{Entry}
pub use Rattle.eos_machine.specs.declared.item.Item.{Item}
pub use Rattle.eos_machine.specs.declared.item.Item.TheVariants.{Fed, State, Output, Offset, Marker}
pub use Rattle.eos_machine.specs.declared.state.Coordinator.{Coordinator}
pub use Rattle.eos_machine.specs.declared.state.Producer.{Producer}
pub use Rattle.eos_machine.specs.declared.state.Session.{Session}
pub use Rattle.eos_machine.specs.declared.state.Election.{Election}
pub use Rattle.eos_machine.specs.declared.state.Message.{Message}
use Rattle.eos_machine.specs.declared.state.Message.TheVariants as messages
pub use Rattle.eos_machine.specs.declared.event.Event.{Event}
pub use Rattle.eos_machine.specs.declared.event.Reply.{Reply}

pub record World : Type 0 where
  -- by place
  pub logs : List (List Item)
  -- by application
  pub coordinators : List Coordinator
  pub messages : List Message
  -- for each message, whether a broker has accepted it
  pub accepted : List Bool
  pub sessions : List Session
  -- by group: how often its members have changed
  pub generations : List ℕ
  -- of the leaders of all partitions, the oldest first
  pub elections : List Election
  -- how many events were taken
  pub events : ℕ

-- nothing was written of the application
abbrev pub fresh : Coordinator
fresh = record { started = false; status = Empty; epoch = 0; partitions = []; awaited = [] }

abbrev pub opening : Config → World
opening c = record {
  logs = replicate (log_count c) [];
  coordinators = replicate (application_count c) fresh;
  messages = [];
  accepted = [];
  sessions = [];
  generations = replicate (group_count c) 0;
  elections = [];
  events = 0;
}

abbrev pub log_at : World → ℕ → List Item
log_at w p = slice_index_or w.logs p []

abbrev pub coord_at : World → ℕ → Coordinator
coord_at w a = slice_index_or w.coordinators a fresh

abbrev pub generation_at : World → ℕ → ℕ
generation_at w g = slice_index_or w.generations g 0

-- that of an application's group
abbrev pub generation_of : Config → World → ℕ → ℕ
generation_of c w a = generation_at w (group_of c a)

-- ---- changes

abbrev pub with_item : World → ℕ → Item → World
with_item w p x = record w { logs = slice_set w.logs p (log_at w p ++ x ∷ []) }

abbrev pub with_coord : World → ℕ → Coordinator → World
with_coord w a s = record w { coordinators = slice_set w.coordinators a s }

-- messages are queued, none of which was accepted
abbrev pub with_messages : World → List Message → World
with_messages w ms = record w { messages = w.messages ++ ms; accepted = w.accepted ++ map (λ m. false) ms }

abbrev pub with_sessions : World → List Session → World
with_sessions w ss = record w { sessions = ss }

abbrev pub with_accepted : World → ℕ → World
with_accepted w n = record w { accepted = slice_set w.accepted n true }

abbrev pub with_generation : World → ℕ → ℕ → World
with_generation w g n = record w { generations = slice_set w.generations g n }

-- the state that a record leaves; the end markers of all its partitions are awaited
abbrev pub state_of : Entry → Coordinator
state_of x = record { started = true; status = x.status; epoch = x.epoch; partitions = x.partitions; awaited = x.partitions }

-- these places but for the odd partitions of `out`
abbrev pub without_odd_outputs : Config → List ℕ → List ℕ
without_odd_outputs c ps = filter (λ p. not (is_odd_output c p)) ps

-- hide-listing: a record says all partitions of its transaction
abbrev pub said : Switches → Config → List ℕ → List ℕ
said u c ps = if u.hide_listing then without_odd_outputs c ps else ps

abbrev pub said_entry : Switches → Config → Entry → Entry
said_entry u c x = record { status = x.status; epoch = x.epoch; partitions = said u c x.partitions }

-- a record is written, and this is the state
abbrev pub recorded : Config → World → ℕ → Entry → Coordinator → World
recorded c w a x s = with_coord (with_item w (txn_index c a) (State a x w.events)) a s

-- the state is what the record should say
abbrev pub written : Switches → Config → World → ℕ → Entry → World
written u c w a x = recorded c w a (said_entry u c x) (state_of x)

abbrev pub due_markers : ℕ → ℕ → Kind → List ℕ → List Message
due_markers a e k ps = map (messages.Marker a e k) ps

-- a transaction is decided: its end is written at the next epoch, and its end markers are queued
abbrev pub prepared : Switches → Config → World → ℕ → Kind → List ℕ → World
prepared u c w a k ps =
    with_messages (written u c w a (record { status = Prepare k; epoch = (coord_at w a).epoch + 1; partitions = ps })) (due_markers a ((coord_at w a).epoch + 1) k ps)

-- all end markers of a transaction were written
abbrev pub finished : Switches → Config → World → ℕ → Kind → World
finished u c w a k = written u c w a (record { status = Complete k; epoch = (coord_at w a).epoch; partitions = [] })
