-- What a message does when it arrives: data and offsets at a broker, ends at the coordinator, end markers at a broker
-- (KIP-98, "Idempotent Producer Guarantees" and "Data flow"; KIP-890, the end of a transaction raises the epoch; KIP-447,
-- an offset commit carries its group's generation). Switches may break their rules.
use Rattle.std.specs.Prelude.{ℕ, ◌+◌, ◌==◌, nat_lt, false, not, ◌&&◌, ◌||◌, List, [], length, slice_index_or, Option, Some, None, if◌then◌else◌}
use Rattle.std.specs.List.{filter}
use Rattle.eos_batch.specs.declared.marker.Kind.{Kind}
use Rattle.eos_machine.specs.declared.switches.Switches.{Switches}
use Rattle.eos_machine.specs.LogIndexes.{Config, application_count, offsets_index, written_index, listed}
use Rattle.eos_machine.specs.World.{World, Claim, Status, Empty, Ongoing, Prepare, Complete, Item, Output, Offset, Coordinator, Message, coord_at, generation_of, log_at, with_item, with_coord, with_accepted, written, prepared, finished}
use Rattle.eos_machine.specs.declared.state.Message.TheVariants as messages
use Rattle.eos_machine.specs.Logs.{producer_at}
use Rattle.eos_machine.specs.Rules.{is_repeated, is_out_of_order, is_stale, is_marker_fenced, marker_of}
use Rattle.eos_machine.specs.Tests.{is_ongoing, is_prepare, has, is_nil, is_commit, is_current, is_decided, waits_for, ongoing_partitions}
use Rattle.eos_machine.specs.Answers.{Answer, when, Done, Fenced, OutOfOrder, DuplicateKept, WrongState, Busy, StaleGeneration, Unknown}

-- ---- data

-- the partition belongs to the transaction: where it is new to it, an Ongoing record is written
abbrev pub with_partition : Switches → Config → World → ℕ → ℕ → World
with_partition u c w a p =
    if is_ongoing (coord_at w a).status && has p (coord_at w a).partitions
    then w
    else written u c w a (record { status = Ongoing; epoch = (coord_at w a).epoch; partitions = listed p (ongoing_partitions (coord_at w a).status (coord_at w a).partitions) })

-- a batch is appended, and its message is accepted
abbrev pub appended : World → ℕ → ℕ → Item → World
appended w n p x = with_accepted (with_item w p x) n

-- a batch of the transaction is
abbrev pub accept : Switches → Config → World → ℕ → ℕ → ℕ → Item → World
accept u c w n a p x = appended (with_partition u c w a p) n p x

-- no-fence: a batch of an old epoch is refused; with the switch its broker appends it, and no transaction lists the partition
abbrev pub fenced : Switches → World → ℕ → ℕ → Item → Answer
fenced u w n p x = if u.no_fence then (appended w n p x, Done (length (log_at w p))) else (w, Fenced)

-- at the partition p
abbrev pub deliver_output : Switches → Config → World → ℕ → ℕ → ℕ → ℕ → ℕ → Option Claim → ℕ → Answer
deliver_output u c w n a e p s x v =
    when (nat_lt e (producer_at w a p).high) (fenced u w n p (Output a e s x v w.events)) (
    when (is_repeated u (producer_at w a p) e s) (w, DuplicateKept) (
    when (is_out_of_order u (producer_at w a p) e s) (w, OutOfOrder) (
    when (not (is_current (coord_at w a) e)) (fenced u w n p (Output a e s x v w.events)) (
    when (is_prepare (coord_at w a).status) (w, Busy) (
    (accept u c w n a p (Output a e s x v w.events), Done (length (log_at w p))))))))

abbrev pub deliver_offset : Switches → Config → World → ℕ → ℕ → ℕ → ℕ → ℕ → Option ℕ → Answer
deliver_offset u c w n a e g q v =
    when (slice_index_or w.accepted n false) (w, DuplicateKept) (
    when (is_stale u g (generation_of c w a)) (w, StaleGeneration) (
    when (nat_lt e (producer_at w a offsets_index).high) (fenced u w n offsets_index (Offset a e q v w.events)) (
    when (not (is_current (coord_at w a) e)) (fenced u w n offsets_index (Offset a e q v w.events)) (
    when (is_prepare (coord_at w a).status) (w, Busy) (
    (accept u c w n a offsets_index (Offset a e q v w.events), Done (length (log_at w offsets_index))))))))

-- ---- ends

abbrev pub deliver_end : Switches → Config → World → ℕ → ℕ → Kind → Answer
deliver_end u c w a e k =
    when (is_decided (coord_at w a).status k && (coord_at w a).epoch == e + 1) (w, DuplicateKept) (
    when (not (is_current (coord_at w a) e) || is_prepare (coord_at w a).status) (w, Fenced) (
    when (is_commit k && not (is_ongoing (coord_at w a).status)) (w, WrongState) (
    when (is_nil (ongoing_partitions (coord_at w a).status (coord_at w a).partitions)) (finished u c (prepared u c w a k []) a k, Done (length w.messages)) (
    (prepared u c w a k (ongoing_partitions (coord_at w a).status (coord_at w a).partitions), Done (length w.messages))))))

-- ---- end markers

-- these partitions but for one
abbrev pub without : ℕ → List ℕ → List ℕ
without p ps = filter (λ q. not (q == p)) ps

-- one end marker fewer is awaited
abbrev pub ticked_off : Coordinator → ℕ → Coordinator
ticked_off s p = record s { awaited = without p s.awaited }

-- lose-marker: an end marker is appended
abbrev pub marked : Switches → Config → World → ℕ → ℕ → Kind → ℕ → World
marked u c w a m k p = if u.lose_marker then w else with_item w p (marker_of u c a m k p w.events)

-- and ticked off, with the switch too
abbrev pub ticked : Switches → Config → World → ℕ → ℕ → Kind → ℕ → World
ticked u c w a m k p = with_coord (marked u c w a m k p) a (ticked_off (coord_at w a) p)

abbrev pub deliver_marker : Switches → Config → World → ℕ → ℕ → Kind → ℕ → Answer
deliver_marker u c w a m k p =
    when (is_marker_fenced u (producer_at w a p) m) (w, Fenced) (
    when (not (waits_for (coord_at w a).status (coord_at w a).epoch m k && has p (coord_at w a).awaited)) (marked u c w a m k p, Done (length (log_at w p))) (
    when (is_nil (without p (coord_at w a).awaited)) (finished u c (ticked u c w a m k p) a k, Done (length (log_at w p))) (
    (ticked u c w a m k p, Done (length (log_at w p))))))

-- apart from the Complete record: after the last one too the transaction stays prepared (KIP-98, WriteTxnMarkersRequest)
abbrev pub append_marker : Switches → Config → World → ℕ → ℕ → Kind → ℕ → Answer
append_marker u c w a m k p =
    when (is_marker_fenced u (producer_at w a p) m) (w, Fenced) (
    when (not (waits_for (coord_at w a).status (coord_at w a).epoch m k && has p (coord_at w a).awaited)) (marked u c w a m k p, Done (length (log_at w p))) (
    (ticked u c w a m k p, Done (length (log_at w p)))))

-- only an end marker is
abbrev pub write_marker : Switches → Config → World → Option Message → Answer
write_marker u c w None = (w, Unknown)
write_marker u c w (Some (messages.Output a e p s x v)) = (w, Unknown)
write_marker u c w (Some (messages.Offset a e g q v)) = (w, Unknown)
write_marker u c w (Some (messages.End a e k)) = (w, Unknown)
write_marker u c w (Some (messages.Marker a m k p)) = append_marker u c w a m k p

-- the coordinator writes the Complete record of a transaction of which it awaits no end marker
-- (`TransactionMarkerChannelManager.maybeWriteTxnCompletion` of Kafka's sources)
abbrev pub complete_prepared : Switches → Config → World → ℕ → Status → Answer
complete_prepared u c w a Empty = (w, WrongState)
complete_prepared u c w a Ongoing = (w, WrongState)
complete_prepared u c w a (Prepare k) = when (not (is_nil (coord_at w a).awaited)) (w, Busy) (finished u c w a k, Done 0)
complete_prepared u c w a (Complete k) = (w, WrongState)

abbrev pub complete : Switches → Config → World → ℕ → Answer
complete u c w a = when (not (nat_lt a (application_count c))) (w, Unknown) (complete_prepared u c w a (coord_at w a).status)

-- ---- any message

abbrev pub deliver : Switches → Config → World → ℕ → Option Message → Answer
deliver u c w n None = (w, Unknown)
deliver u c w n (Some (messages.Output a e p s x v)) = deliver_output u c w n a e (written_index c a p) s x v
deliver u c w n (Some (messages.Offset a e g q v)) = deliver_offset u c w n a e g q v
deliver u c w n (Some (messages.End a e k)) = deliver_end u c w a e k
deliver u c w n (Some (messages.Marker a m k p)) = deliver_marker u c w a m k p
