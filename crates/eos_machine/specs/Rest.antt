-- What a cluster promises of its logs: at any time, and at rest.
use Rattle.std.specs.Prelude.{◌≡◌, ℕ, ◌+◌, ◌==◌, ℤ, pos, negsuc, true, false, List, [], ◌∷◌, Option, Some, None, Ok, ⊤, if◌then◌else◌}
use Rattle.std.specs.List.{filter_map}
use Rattle.eos_batch.specs.declared.marker.Kind.TheVariants.{Commit, Abort}
use Rattle.eos_touch.specs.declared.touch.Touch.{Touch}
use Rattle.eos_touch.specs.declared.touch.Touch.TheVariants as touches
use Rattle.eos_touch.specs.Neighbours.{EachAfter, Accepts, KeepsOrder}
use Rattle.eos_txnlog.specs.declared.status.Status.{Status as TxnStatus}
use Rattle.eos_txnlog.specs.declared.status.Status.TheVariants as statuses
use Rattle.eos_txnlog.specs.declared.value.TxnValue.{TxnValue}
use Rattle.eos_txnlog.specs.declared.partitions.TopicPartitions.{TopicPartitions}
use Rattle.eos_txnlog.specs.Following.{step_verdict}
use Rattle.eos_machine.specs.LogIndexes.{Config, txn_index, topic_of, number_of, is_topic, is_sequenced}
use Rattle.eos_machine.specs.World.{World, Status, Empty, Ongoing, Prepare, Complete, Entry, Item, Fed, State, Output, Offset, Marker, fresh, coord_at, log_at}
use Rattle.eos_machine.specs.Application.{Mark, Decision, IsAtomic}
use Rattle.eos_machine.specs.Logs.{entries_of, marks_of, decisions_from}
use Rattle.eos_machine.specs.Tests.{is_ongoing, is_prepare}

-- ---- batches and markers, as a checker sees them

-- the producer id of an application
abbrev pub producer_id : ℕ → ℤ
producer_id a = pos (1000 + a)

abbrev pub touch_in : ℕ → Item → Option Touch
touch_in a (Fed n) = None
touch_in a (State b x n) = None
touch_in a (Output b e s x v n) = if b == a then Some (touches.Data (pos e) true (pos s) 1) else None
touch_in a (Offset b e q v n) = if b == a then Some (touches.Data (pos e) true (negsuc 0) 1) else None
touch_in a (Marker b e k n) = if b == a then Some (touches.End (pos e) k) else None

abbrev pub touches_of : ℕ → List Item → List Touch
touches_of a log = filter_map (touch_in a) log

-- no fault of a sequence or of an epoch stands at any batch
abbrev pub KeepsSequences : Config → World → Type 0
KeepsSequences c w = (a p : ℕ) → EachAfter (KeepsOrder (is_sequenced c p)) None (touches_of a (log_at w p))

-- no fault of a batch after the one before it stands
abbrev pub NeighboursFit : Config → World → Type 0
NeighboursFit c w = (a p : ℕ) → EachAfter (Accepts (is_sequenced c p)) None (touches_of a (log_at w p))

-- ---- the transaction log, as a checker sees it

abbrev pub status_of : Status → TxnStatus
status_of Empty = statuses.Empty
status_of Ongoing = statuses.Ongoing
status_of (Prepare Commit) = statuses.PrepareCommit
status_of (Prepare Abort) = statuses.PrepareAbort
status_of (Complete Commit) = statuses.CompleteCommit
status_of (Complete Abort) = statuses.CompleteAbort

-- a partition more in front of a list by topic
abbrev pub with_number : List ℕ → ℕ → List TopicPartitions → List TopicPartitions
with_number topic number [] = record { topic = topic; numbers = pos number ∷ [] } ∷ []
with_number topic number (g ∷ gs) =
    if is_topic topic g.topic
    then record { topic = g.topic; numbers = pos number ∷ g.numbers } ∷ gs
    else record { topic = topic; numbers = pos number ∷ [] } ∷ (g ∷ gs)

abbrev pub by_topic : Config → List ℕ → List TopicPartitions
by_topic c [] = []
by_topic c (p ∷ ps) = with_number (topic_of c p) (number_of c p) (by_topic c ps)

-- the value of a record that this event writes
abbrev pub value_of : Config → ℕ → Entry → ℕ → TxnValue
value_of c a x n = record {
  producer = producer_id a;
  epoch = pos x.epoch;
  timeout = pos 60000;
  status = status_of x.status;
  partitions = by_topic c x.partitions;
  last_update = pos n;
  start = pos n;
}

abbrev pub value_in : Config → ℕ → Item → Option TxnValue
value_in c a (Fed n) = None
value_in c a (State b x n) = if b == a then Some (value_of c a x n) else None
value_in c a (Output b e s x v n) = None
value_in c a (Offset b e q v n) = None
value_in c a (Marker b e k n) = None

abbrev pub values_of : Config → ℕ → List Item → List TxnValue
values_of c a log = filter_map (value_in c a) log

-- each record may follow the one before it
abbrev pub EachStep : Option TxnValue → List TxnValue → Type 0
EachStep before [] = ⊤
EachStep before (v ∷ vs) = (step_verdict before (Some v) ≡ Ok tt) × EachStep (Some v) vs

abbrev pub StepsFit : Config → World → Type 0
StepsFit c w = (a : ℕ) → EachStep None (values_of c a (log_at w (txn_index c a)))

-- ---- at rest

-- no transaction is open or still ending
abbrev pub IsAtRest : World → Type 0
IsAtRest w = (a : ℕ) → (is_ongoing (coord_at w a).status ≡ false) × (is_prepare (coord_at w a).status ≡ false)

-- the decisions of an application, by its records
abbrev pub decisions_of : Config → World → ℕ → List Decision
decisions_of c w a = decisions_from [] fresh (entries_of a (log_at w (txn_index c a)))

-- the batches and markers of an application in a partition
abbrev pub marks_at : World → ℕ → ℕ → List Mark
marks_at w a p = marks_of a (log_at w p)

abbrev pub AllAtomic : Config → World → Type 0
AllAtomic c w = (a : ℕ) → IsAtomic (decisions_of c w a) (marks_at w a)
