-- What stays true of a cluster, whatever happens to it.
use Rattle.std.specs.Prelude.{◌≡◌, ℕ, ◌<◌, Bool, true, false, List, [], ◌∷◌, length, ⊤}
use Rattle.std.specs.List.{All}
use Rattle.eos_batch.specs.declared.marker.Kind.TheVariants.{Abort}
use Rattle.eos_machine.specs.LogIndexes.{Config, application_count, txn_index, log_count, is_sequenced}
use Rattle.eos_machine.specs.World.{World, Status, Empty, Ongoing, Prepare, Complete, Entry, Coordinator, Message, fresh, coord_at, log_at, state_of}
use Rattle.eos_machine.specs.declared.state.Message.TheVariants as messages
use Rattle.eos_machine.specs.Application.{Mark, IsOrdered}
use Rattle.eos_machine.specs.Logs.{entries_of, marks_of, producer_of}
use Rattle.eos_machine.specs.Machine.{reread}
use Rattle.eos_machine.specs.Rest.{decisions_of, marks_at}
pub use Rattle.eos_machine.specs.Formed.{IsOfOne}
use Rattle.eos_machine.proofs.Apps.{App, Invariant}
use Rattle.eos_machine.proofs.Brokers.{Broker}

abbrev pub app_of : Config → World → ℕ → App
app_of c w a = record {
  status = (coord_at w a).status;
  epoch = (coord_at w a).epoch;
  partitions = (coord_at w a).partitions;
  awaited = (coord_at w a).awaited;
  decisions = decisions_of c w a;
  marks = marks_at w a;
}

-- the steps that a transaction log may take, after nothing and after a record
abbrev pub Moves : Bool → Status → ℕ → Status → ℕ → Type 0
Moves false s e Empty f = ⊤
Moves false s e Ongoing f = ⊥
Moves false s e (Prepare l) f = ⊥
Moves false s e (Complete l) f = ⊥
Moves true Empty e Empty f = ⊤
Moves true Empty e Ongoing f = ⊤
Moves true Empty e (Prepare l) f = (l ≡ Abort) × (e < f)
Moves true Empty e (Complete l) f = ⊥
Moves true Ongoing e Empty f = ⊥
Moves true Ongoing e Ongoing f = e ≡ f
Moves true Ongoing e (Prepare l) f = e < f
Moves true Ongoing e (Complete l) f = ⊥
Moves true (Prepare k) e Empty f = ⊥
Moves true (Prepare k) e Ongoing f = ⊥
Moves true (Prepare k) e (Prepare l) f = ⊥
Moves true (Prepare k) e (Complete l) f = k ≡ l
Moves true (Complete k) e Empty f = ⊤
Moves true (Complete k) e Ongoing f = ⊤
Moves true (Complete k) e (Prepare l) f = (l ≡ Abort) × (e < f)
Moves true (Complete k) e (Complete l) f = ⊥

abbrev pub Steps : Coordinator → List Entry → Type 0
Steps s [] = ⊤
Steps s (x ∷ xs) = Moves s.started s.status s.epoch x.status x.epoch × Steps (state_of x) xs

abbrev pub IsPlace : Config → ℕ → Type 0
IsPlace c p = p < log_count c

-- a message names what there is, and an end marker that is due was decided
abbrev pub IsDue : Config → World → Message → Type 0
IsDue c w (messages.Output a e p s x v) = (a < application_count c) × (p < c.outputs)
IsDue c w (messages.Offset a e g q v) = a < application_count c
IsDue c w (messages.End a e k) = a < application_count c
IsDue c w (messages.Marker a m k p) = (a < application_count c) × IsPlace c p × IsOrdered (decisions_of c w a) p m k

-- the state in memory is the one that the log says
pub record IsRead (s t : Coordinator) : Type 0 where
  pub started : s.started ≡ t.started
  pub status : s.status ≡ t.status
  pub epoch : s.epoch ≡ t.epoch
  pub partitions : s.partitions ≡ t.partitions

abbrev pub IsKept : Config → ℕ → List Mark → Type 0
IsKept c p ts = Broker (is_sequenced c p) ts (producer_of ts)

pub record Good (c : Config) (w : World) : Type 0 where
  pub apps : (a : ℕ) → Invariant (app_of c w a)
  pub brokers : (a p : ℕ) → IsKept c p (marks_of a (log_at w p))
  pub due : All (IsDue c w) w.messages
  pub read : (a : ℕ) → IsRead (coord_at w a) (reread c w a)
  pub steps : (a : ℕ) → Steps fresh (entries_of a (log_at w (txn_index c a)))
  pub places : (a : ℕ) → All (IsPlace c) (coord_at w a).partitions
  pub sessions : All (IsOfOne c) w.sessions
  pub coordinators : length w.coordinators ≡ application_count c
  pub logs : length w.logs ≡ log_count c
