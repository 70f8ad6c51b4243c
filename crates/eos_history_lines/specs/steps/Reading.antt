-- What a JSON value says, looked up member by member; other members and the order of switches aren't looked at.
use Rattle.std.specs.Prelude.{ℕ, ℤ, pos, negsuc, List, Bool, false, ◌&&◌, ◌||◌, int_le, codes, bytes_eq, Option, None, Some, is_some, option_map, option_and_then, if◌then◌else◌}
use Rattle.serde_json.specs.Data.{Data, Items, no_items, item}
use Rattle.serde_json.specs.Find.{get, as_null, as_bool, as_number, as_u64, as_i64, as_str, as_array}
use Rattle.eos_batch.specs.declared.marker.Kind.{Kind}
use Rattle.eos_batch.specs.declared.marker.Kind.TheVariants as kinds
use Rattle.eos_machine.specs.declared.item.Claim.{Claim}
use Rattle.eos_machine.specs.declared.event.Event.{Event}
use Rattle.eos_machine.specs.declared.event.Event.TheVariants.{Feed, Start, Produce, Commit, End, Resume, Fetch, Members, BrokerRestart, CoordinatorRestart, Deliver, TimeOut, AddPartition, WriteMarker, Complete, Elect}
use Rattle.eos_machine.specs.declared.event.Reply.{Reply}
use Rattle.eos_machine.specs.declared.event.Reply.TheVariants as replies
use Rattle.eos_machine.specs.declared.switches.Switches.{Switches}
use Rattle.eos_machine.specs.declared.switches.Switch.TheVariants.{KeepDuplicates, NoFence, NoBump, LoseMarker, SwapMarker, HideListing, IgnoreGeneration}
use Rattle.eos_machine.specs.Switching.{switch_name}
use Rattle.eos_machine.specs.declared.config.Config.{Config}
use Rattle.eos_history_lines.specs.declared.line.Head.{Head}
use Rattle.eos_history_lines.specs.declared.line.Deed.{Deed}
use Rattle.eos_history_lines.specs.declared.line.Deed.TheVariants.{Asked, Set, Noted}
use Rattle.eos_machine.specs.declared.event.Note.{Note}
use Rattle.eos_machine.specs.declared.event.Note.TheVariants as notes
use Rattle.eos_history_lines.specs.declared.line.Line.{Line}
use Rattle.eos_history_lines.specs.declared.line.Tail.{Tail}
use Rattle.eos_history_lines.specs.declared.line.Row.{Row}
use Rattle.eos_history_lines.specs.declared.line.Row.TheVariants as rows

-- ---- members

abbrev pub count_in : List ℕ → Data → Option ℕ
count_in name d = option_and_then (λ v. option_and_then as_u64 (as_number v)) (get name d)

abbrev pub integer_in : List ℕ → Data → Option ℤ
integer_in name d = option_and_then (λ v. option_and_then as_i64 (as_number v)) (get name d)

-- of 32 bits
abbrev pub as_small : ℤ → Option ℤ
as_small z = if int_le (negsuc 2147483647) z && int_le z (pos 2147483647) then Some z else None

abbrev pub small_in : List ℕ → Data → Option ℤ
small_in name d = option_and_then as_small (integer_in name d)

abbrev pub text_in : List ℕ → Data → Option (List ℕ)
text_in name d = option_and_then as_str (get name d)

abbrev pub kind_called : List ℕ → Option Kind
kind_called word = if bytes_eq word (codes "commit") then Some kinds.Commit else (if bytes_eq word (codes "abort") then Some kinds.Abort else None)

-- ---- events

abbrev pub restart_in : Data → Option Event
restart_in d = option_and_then (λ topic. option_map (λ partition. BrokerRestart topic partition) (count_in (codes "partition") d)) (text_in (codes "topic") d)

abbrev pub elect_in : Data → Option Event
elect_in d =
    option_and_then (λ topic. option_and_then (λ partition. option_map (λ kept. Elect topic partition kept)
    (count_in (codes "kept") d)) (count_in (codes "partition") d)) (text_in (codes "topic") d)

abbrev pub claim_in : Data → Option Claim
claim_in d =
    option_and_then (λ topic. option_and_then (λ partition. option_and_then (λ offset. option_and_then (λ output.
    option_map (λ n. record { topic = topic; partition = partition; offset = offset; output = output; of = n })
    (small_in (codes "of") d)) (small_in (codes "output") d)) (integer_in (codes "offset") d)) (small_in (codes "partition") d)) (text_in (codes "topic") d)

-- null says that there is none
abbrev pub claim_or_none : Data → Option (Option Claim)
claim_or_none d = if is_some (as_null d) then Some None else option_map (λ c. Some c) (claim_in d)

abbrev pub claim_within : Data → Option (Option Claim)
claim_within d = option_and_then claim_or_none (get (codes "claim") d)

abbrev pub offset_or_none : Data → Option (Option ℤ)
offset_or_none d = if is_some (as_null d) then Some None else option_map (λ z. Some z) (option_and_then as_i64 (as_number d))

abbrev pub offset_within : Data → Option (Option ℤ)
offset_within d = option_and_then offset_or_none (get (codes "offset") d)

abbrev pub produce_in : Data → Option Event
produce_in d =
    option_and_then (λ session. option_and_then (λ partition. option_map (λ claim. Produce session partition claim)
    (claim_within d)) (count_in (codes "partition") d)) (count_in (codes "session") d)

abbrev pub feed_in : Data → Option Event
feed_in d = option_map (λ source. Feed source) (count_in (codes "source") d)

abbrev pub start_in : Data → Option Event
start_in d = option_map (λ application. Start application) (count_in (codes "application") d)

abbrev pub deliver_in : Data → Option Event
deliver_in d = option_map (λ message. Deliver message) (count_in (codes "message") d)

abbrev pub time_out_in : Data → Option Event
time_out_in d = option_map (λ application. TimeOut application) (count_in (codes "application") d)

abbrev pub write_marker_in : Data → Option Event
write_marker_in d = option_map (λ message. WriteMarker message) (count_in (codes "message") d)

abbrev pub complete_in : Data → Option Event
complete_in d = option_map (λ application. Complete application) (count_in (codes "application") d)

-- the first group's, where none is named
abbrev pub group_from : Option Data → Option ℕ
group_from None = Some 0
group_from (Some d) = option_and_then as_u64 (as_number d)

abbrev pub members_in : Data → Option Event
members_in d = option_map (λ group. Members group) (group_from (get (codes "group") d))

abbrev pub commit_in : ℕ → Data → Option Event
commit_in session d = option_and_then (λ source. option_map (λ offset. Commit session source offset) (offset_within d)) (count_in (codes "source") d)

abbrev pub end_in : ℕ → Data → Option Event
end_in session d = option_map (λ kind. End session kind) (option_and_then kind_called (text_in (codes "kind") d))

abbrev pub fetch_in : ℕ → Data → Option Event
fetch_in session d = option_map (λ source. Fetch session source) (count_in (codes "source") d)

-- null says the partition of the offsets
abbrev pub partition_or_none : Data → Option (Option ℕ)
partition_or_none d = if is_some (as_null d) then Some None else option_map (λ p. Some p) (option_and_then as_u64 (as_number d))

abbrev pub partition_within : Data → Option (Option ℕ)
partition_within d = option_and_then partition_or_none (get (codes "partition") d)

abbrev pub add_in : ℕ → Data → Option Event
add_in session d = option_map (λ partition. AddPartition session partition) (partition_within d)

abbrev pub event_of : List ℕ → ℕ → Data → Option Event
event_of word session d =
    if bytes_eq word (codes "commit") then commit_in session d
    else (if bytes_eq word (codes "end") then end_in session d
    else (if bytes_eq word (codes "resume") then Some (Resume session)
    else (if bytes_eq word (codes "fetch") then fetch_in session d
    else (if bytes_eq word (codes "add-partition") then add_in session d else None))))

abbrev pub event_of_session : List ℕ → Data → Option Event
event_of_session word d = option_and_then (λ session. event_of word session d) (count_in (codes "session") d)

-- one that takes no memory
abbrev pub plain_event : List ℕ → Data → Option Event
plain_event word d =
    if bytes_eq word (codes "feed") then feed_in d
    else (if bytes_eq word (codes "start") then start_in d
    else (if bytes_eq word (codes "deliver") then deliver_in d
    else (if bytes_eq word (codes "members") then members_in d
    else (if bytes_eq word (codes "coordinator-restart") then Some CoordinatorRestart
    else (if bytes_eq word (codes "time-out") then time_out_in d
    else (if bytes_eq word (codes "write-marker") then write_marker_in d
    else (if bytes_eq word (codes "complete") then complete_in d
    else event_of_session word d)))))))

abbrev pub event_called : List ℕ → Data → Option Event
event_called word d =
    if bytes_eq word (codes "produce") then produce_in d
    else (if bytes_eq word (codes "broker-restart") then restart_in d
    else (if bytes_eq word (codes "elect") then elect_in d else plain_event word d))

abbrev pub event_in : Data → Option Event
event_in d = option_and_then (λ word. event_called word d) (text_in (codes "event") d)

-- ---- replies

abbrev pub refusal_called : List ℕ → Option Reply
refusal_called word =
    if bytes_eq word (codes "stale-generation") then Some replies.StaleGeneration
    else (if bytes_eq word (codes "epochs-spent") then Some replies.EpochsSpent
    else (if bytes_eq word (codes "unknown") then Some replies.Unknown
    else (if bytes_eq word (codes "out-of-memory") then Some replies.OutOfMemory
    else (if bytes_eq word (codes "full") then Some replies.Full else None))))

abbrev pub plain_reply : List ℕ → Option Reply
plain_reply word =
    if bytes_eq word (codes "fenced") then Some replies.Fenced
    else (if bytes_eq word (codes "out-of-order") then Some replies.OutOfOrder
    else (if bytes_eq word (codes "duplicate-kept") then Some replies.DuplicateKept
    else (if bytes_eq word (codes "wrong-state") then Some replies.WrongState
    else (if bytes_eq word (codes "busy") then Some replies.Busy else refusal_called word))))

abbrev pub reply_called : List ℕ → Data → Option Reply
reply_called word d = if bytes_eq word (codes "done") then option_map (λ n. replies.Done n) (count_in (codes "value") d) else plain_reply word

abbrev pub reply_said : Data → Data → Option Reply
reply_said said d = option_and_then (λ word. reply_called word d) (as_str said)

abbrev pub reply_from : Option Data → Data → Option (Option Reply)
reply_from None d = Some None
reply_from (Some said) d = option_map (λ reply. Some reply) (reply_said said d)

-- that none is said is a reply too
abbrev pub reply_in : Data → Option (Option Reply)
reply_in d = reply_from (get (codes "reply") d) d

-- ---- switches

abbrev pub is_called : List ℕ → Option (List ℕ) → Bool
is_called name None = false
is_called name (Some text) = bytes_eq text name

abbrev pub is_text : List ℕ → Data → Bool
is_text name d = is_called name (as_str d)

abbrev pub is_named : List ℕ → Items → Bool
is_named name no_items = false
is_named name (item d ds) = is_text name d || is_named name ds

abbrev pub switches_in : Items → Switches
switches_in ds = record {
  keep_duplicates = is_named (switch_name KeepDuplicates) ds;
  no_fence = is_named (switch_name NoFence) ds;
  no_bump = is_named (switch_name NoBump) ds;
  lose_marker = is_named (switch_name LoseMarker) ds;
  swap_marker = is_named (switch_name SwapMarker) ds;
  hide_listing = is_named (switch_name HideListing) ds;
  ignore_generation = is_named (switch_name IgnoreGeneration) ds;
}

-- those under a name
abbrev pub switches_at : List ℕ → Data → Option Switches
switches_at name d = option_map switches_in (option_and_then as_array (get name d))

-- ---- lines

abbrev pub sizes_in : Data → Option Config
sizes_in d =
    option_and_then (λ applications. option_and_then (λ inputs. option_and_then (λ outputs. option_and_then (λ logs. option_and_then (λ records. option_and_then (λ most.
    option_map (λ chain. record { applications = applications; inputs = inputs; outputs = outputs; transaction_logs = logs; segment_records = records; batch_records = most; chain = chain })
    (option_and_then as_bool (get (codes "chain") d))) (count_in (codes "batch_records") d)) (count_in (codes "segment_records") d)) (count_in (codes "transaction_logs") d)) (count_in (codes "outputs") d)) (count_in (codes "inputs") d)) (count_in (codes "applications") d)

abbrev pub head_in : Data → Option Head
head_in d =
    option_and_then (λ config. option_and_then (λ switches. option_and_then (λ seed. option_map (λ words.
    record { config = config; switches = switches; seed = seed; words = words })
    (count_in (codes "words") d)) (count_in (codes "seed") d)) (switches_at (codes "switches") d)) (sizes_in d)

abbrev pub asked_in : Data → Option Deed
asked_in d = option_and_then (λ reply. option_map (λ event. Asked event reply) (event_in d)) (reply_in d)

abbrev pub note_called : List ℕ → Data → Option Note
note_called word d =
    if bytes_eq word (codes "lost") then option_map (λ m. notes.Lost m) (count_in (codes "message") d)
    else (if bytes_eq word (codes "repeated") then option_map (λ m. notes.Repeated m) (count_in (codes "message") d)
    else (if bytes_eq word (codes "mishap") then option_map (λ t. notes.Erred t) (text_in (codes "mishap") d) else None))

abbrev pub note_said : Data → Data → Option Note
note_said said d = option_and_then (λ word. note_called word d) (as_str said)

abbrev pub deed_from : Option Data → Data → Option Deed
deed_from None d = asked_in d
deed_from (Some said) d = option_map (λ ds. Set (switches_in ds)) (as_array said)

abbrev pub deed_of : Option Data → Data → Option Deed
deed_of None d = deed_from (get (codes "set") d) d
deed_of (Some said) d = option_map (λ n. Noted n) (note_said said d)

abbrev pub deed_in : Data → Option Deed
deed_in d = deed_of (get (codes "note") d) d

abbrev pub line_in : Data → Option Line
line_in d = option_and_then (λ n. option_map (λ deed. record { number = n; deed = deed }) (deed_in d)) (count_in (codes "number") d)

abbrev pub tail_in : Data → Option Tail
tail_in d =
    option_and_then (λ events. option_and_then (λ transactions. option_and_then (λ lost.
    option_map (λ repeated. record { events = events; transactions = transactions; lost = lost; repeated = repeated })
    (count_in (codes "repeated") d)) (count_in (codes "lost") d)) (count_in (codes "transactions") d)) (count_in (codes "events") d)

abbrev pub row_from : Option Data → Data → Option Row
row_from None d = option_map (λ l. rows.Line l) (line_in d)
row_from (Some events) d = option_map (λ t. rows.Tail t) (tail_in d)

-- a line after the first is the last where it has that line's first member
abbrev pub row_in : Data → Option Row
row_in d = row_from (get (codes "events") d) d
