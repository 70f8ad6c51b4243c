-- What happens to a cluster: each event's effect and reply under any switches, and any list of events.
use Rattle.std.specs.Prelude.{ℕ, ◌+◌, ◌^◌, ◌==◌, nat_lt, not, List, [], ◌∷◌, ◌++◌, map, length, slice_get, Option, Some, None, if◌then◌else◌}
use Rattle.std.specs.List.{flat_map, range_with_len}
use Rattle.eos_batch.specs.declared.marker.Kind.TheVariants.{Abort}
use Rattle.eos_machine.specs.declared.switches.Switches.{Switches}
use Rattle.eos_machine.specs.Switching.{none}
use Rattle.eos_machine.specs.LogIndexes.{Config, application_count, group_count, txn_index, input_index, is_partition, is_target, target_index}
use Rattle.eos_machine.specs.World.{World, Status, Empty, Ongoing, Prepare, Complete, Fed, Coordinator, Session, Message, Event, Reply, fresh, coord_at, generation_at, generation_of, log_at, with_item, with_messages, with_sessions, with_generation, written, due_markers, prepared}
use Rattle.eos_machine.specs.declared.event.Event.TheVariants as events
use Rattle.eos_machine.specs.Logs.{entries_of, last_state}
use Rattle.eos_machine.specs.Tests.{is_active, is_current, is_ongoing, is_prepare}
use Rattle.eos_machine.specs.Answers.{Answer, when, Done, Fenced, WrongState, Busy, EpochsSpent, Unknown, Full}
use Rattle.eos_machine.specs.Sessions.{last_epoch, new_session, produce, commit, end_session, resume, fetch}
use Rattle.eos_machine.specs.Deliveries.{with_partition, deliver_end, deliver, write_marker, complete}
use Rattle.eos_machine.specs.Elections.{electable_at, elect}

abbrev pub feed : Config → World → ℕ → Answer
feed c w p =
    when (not (nat_lt p c.inputs)) (w, Unknown) (
    (with_item w (input_index c p) (Fed w.events), Done (length (log_at w (input_index c p)))))

-- ---- a session begins (KIP-98, "Getting a producer Id")

abbrev pub start_session : Switches → Config → World → ℕ → ℕ → Answer
start_session u c w a e =
    when (nat_lt last_epoch e) (w, EpochsSpent) (
    (with_sessions (written u c w a (record { status = Empty; epoch = e; partitions = [] })) (w.sessions ++ new_session c a e (generation_of c w a) ∷ []), Done (length w.sessions)))

-- an open transaction is aborted first
abbrev pub start : Switches → Config → World → ℕ → Answer
start u c w a =
    when (not (nat_lt a (application_count c))) (w, Unknown) (
    when (is_prepare (coord_at w a).status) (w, Busy) (
    when (is_ongoing (coord_at w a).status) (prepared u c w a Abort (coord_at w a).partitions, Busy) (
    start_session u c w a (if (coord_at w a).started then (coord_at w a).epoch + 1 else 0))))

-- ---- a transaction is open longer than its time-out (`TransactionStateManager.timedOutTransactions` of Kafka's sources; KIP-98; KIP-890)

-- the coordinator ends it as its producer would that gives it up: at the next epoch, so that this producer is fenced
abbrev pub time_out : Switches → Config → World → ℕ → Answer
time_out u c w a =
    when (not (nat_lt a (application_count c))) (w, Unknown) (
    when (not (is_ongoing (coord_at w a).status)) (w, WrongState) (
    deliver_end u c w a (coord_at w a).epoch Abort))

-- ---- a session adds a partition to its transaction, before a batch of it comes there (KIP-98, AddPartitionsToTxnRequest and
-- AddOffsetsToTxnRequest)

abbrev pub add_partition : Switches → Config → World → Option ℕ → Option Session → Answer
add_partition u c w p None = (w, Unknown)
add_partition u c w p (Some s) =
    when (not (is_target c p)) (w, Unknown) (
    when (not (is_active s.ending)) (w, WrongState) (
    when (not (is_current (coord_at w s.application) s.epoch)) (w, Fenced) (
    when (is_prepare (coord_at w s.application).status) (w, Busy) (
    (with_partition u c w s.application (target_index c s.application p), Done 0)))))

-- ---- the coordinator restarts: states are read from the log, and the end markers of prepared ones are queued again

abbrev pub reread : Config → World → ℕ → Coordinator
reread c w a = last_state fresh (entries_of a (log_at w (txn_index c a)))

abbrev pub due_again : Status → ℕ → ℕ → List ℕ → List Message
due_again Empty a e ps = []
due_again Ongoing a e ps = []
due_again (Prepare k) a e ps = due_markers a e k ps
due_again (Complete k) a e ps = []

abbrev pub queued_again : Config → World → ℕ → List Message
queued_again c w a = due_again (reread c w a).status a (reread c w a).epoch (reread c w a).partitions

abbrev pub with_coordinators : World → List Coordinator → World
with_coordinators w ss = record w { coordinators = ss }

abbrev pub restarted : Config → World → World
restarted c w =
    with_coordinators (with_messages w (flat_map (queued_again c w) (range_with_len 0 (length w.coordinators)))) (map (reread c w) (range_with_len 0 (length w.coordinators)))

-- ---- the members of a group change (KIP-447): what its older sessions commit is stale, and of no other group

abbrev pub change_members : Config → World → ℕ → Answer
change_members c w g =
    when (not (nat_lt g (group_count c))) (w, Unknown) (
    (with_generation w g (generation_at w g + 1), Done 0))

-- ---- any event, and any list

-- a broker that restarts reads its log again, of which its state is a function
abbrev pub restart_broker : Config → World → List ℕ → ℕ → Answer
restart_broker c w t p = when (is_partition c t p) (w, Done 0) (w, Unknown)

abbrev pub happens_under : Switches → Config → World → Event → Answer
happens_under u c w (events.Feed p) = feed c w p
happens_under u c w (events.Start a) = start u c w a
happens_under u c w (events.Produce n p x) = produce c w n p x (slice_get w.sessions n)
happens_under u c w (events.Commit n q v) = commit c w n q v
happens_under u c w (events.End n k) = end_session w n k (slice_get w.sessions n)
happens_under u c w (events.Resume n) = resume c w n (slice_get w.sessions n)
happens_under u c w (events.Fetch n q) = fetch c w q (slice_get w.sessions n)
happens_under u c w (events.Members g) = change_members c w g
happens_under u c w (events.BrokerRestart t p) = restart_broker c w t p
happens_under u c w events.CoordinatorRestart = (restarted c w, Done 0)
happens_under u c w (events.Deliver n) = deliver u c w n (slice_get w.messages n)
happens_under u c w (events.TimeOut a) = time_out u c w a
happens_under u c w (events.AddPartition n p) = add_partition u c w p (slice_get w.sessions n)
happens_under u c w (events.WriteMarker n) = write_marker u c w (slice_get w.messages n)
happens_under u c w (events.Complete a) = complete u c w a
happens_under u c w (events.Elect t p k) = elect w k (electable_at c t p)

-- an event was taken
abbrev pub counted : ℕ → Answer → Answer
counted n x = (record x.0 { events = n + 1 }, x.1)

abbrev pub step_under : Switches → Config → World → Event → Answer
step_under u c w e = when (w.events == 2 ^ 31) (w, Full) (counted w.events (happens_under u c w e))

abbrev pub step : Config → World → Event → Answer
step c w e = step_under none c w e

-- each event under its own switches
abbrev pub world_under : Config → World → List (Switches × Event) → World
world_under c w [] = w
world_under c w (x ∷ xs) = world_under c (step_under x.0 c w x.1).0 xs

abbrev pub replies_under : Config → World → List (Switches × Event) → List Reply
replies_under c w [] = []
replies_under c w (x ∷ xs) = (step_under x.0 c w x.1).1 ∷ replies_under c (step_under x.0 c w x.1).0 xs

abbrev pub world_after : Config → World → List Event → World
world_after c w [] = w
world_after c w (e ∷ es) = world_after c (step c w e).0 es

abbrev pub replies : Config → World → List Event → List Reply
replies c w [] = []
replies c w (e ∷ es) = (step c w e).1 ∷ replies c (step c w e).0 es
