-- The lines of a history as JSON (RFC 8259): the first, those of what was done, and the last. Numbers count from 0, but that of a line.
use Rattle.std.specs.Prelude.{ℕ, ℤ, ◌==◌, Bool, List, [], ◌∷◌, ◌++◌, codes, Option, None, Some, if◌then◌else◌}
use Rattle.serde_json.specs.Data.{Data, Members as JsonMembers, no_members, null, boolean, object, array, string, put}
use Rattle.serde_json.specs.View.{items_of}
use Rattle.eos_manifest.specs.Objects.{count, integer, text_value}
use Rattle.eos_machine.specs.declared.config.Config.{Config}
use Rattle.eos_machine.specs.declared.item.Claim.{Claim}
use Rattle.eos_machine.specs.declared.event.Event.{Event}
use Rattle.eos_machine.specs.declared.event.Event.TheVariants.{Feed, Start, Produce, Commit, End, Resume, Fetch, Members, BrokerRestart, CoordinatorRestart, Deliver, TimeOut, AddPartition, WriteMarker, Complete, Elect}
use Rattle.eos_machine.specs.declared.event.Reply.{Reply}
use Rattle.eos_machine.specs.declared.event.Reply.TheVariants as replies
use Rattle.eos_machine.specs.declared.switches.Switches.{Switches}
use Rattle.eos_machine.specs.declared.switches.Switch.TheVariants.{KeepDuplicates, NoFence, NoBump, LoseMarker, SwapMarker, HideListing, IgnoreGeneration}
use Rattle.eos_machine.specs.Switching.{switch_name}
use Rattle.eos_history_lines.specs.declared.line.Head.{Head}
use Rattle.eos_history_lines.specs.declared.line.Deed.{Deed}
use Rattle.eos_history_lines.specs.declared.line.Deed.TheVariants.{Asked, Set, Noted}
use Rattle.eos_machine.specs.declared.event.Note.{Note}
use Rattle.eos_machine.specs.declared.event.Note.TheVariants as notes
use Rattle.eos_history_lines.specs.declared.line.Line.{Line}
use Rattle.eos_history_lines.specs.declared.line.Tail.{Tail}
use Rattle.eos_history_lines.specs.declared.line.Row.{Row}
use Rattle.eos_history_lines.specs.declared.line.Row.TheVariants as rows
use Rattle.eos_history_lines.specs.Words.{kind_word, note_word, event_word, reply_word}

-- ---- switches

-- the name, if the switch is on
abbrev pub named_if : Bool → List ℕ → List Data
named_if on name = if on then string name ∷ [] else []

-- the names of those that are on, in the order of the switches
abbrev pub switch_names : Switches → List Data
switch_names s =
    named_if s.keep_duplicates (switch_name KeepDuplicates) ++ named_if s.no_fence (switch_name NoFence) ++ named_if s.no_bump (switch_name NoBump)
    ++ named_if s.lose_marker (switch_name LoseMarker) ++ named_if s.swap_marker (switch_name SwapMarker)
    ++ named_if s.hide_listing (switch_name HideListing) ++ named_if s.ignore_generation (switch_name IgnoreGeneration)

unfoldable pub switches_value : Switches → Data
switches_value s = array (items_of (switch_names s))

-- ---- the first line

unfoldable pub with_sizes : Config → JsonMembers → JsonMembers
with_sizes c ms =
    put (codes "chain") (boolean c.chain) (put (codes "batch_records") (count c.batch_records) (put (codes "segment_records") (count c.segment_records) (put (codes "transaction_logs") (count c.transaction_logs)
    (put (codes "outputs") (count c.outputs) (put (codes "inputs") (count c.inputs) (put (codes "applications") (count c.applications) ms))))))

unfoldable pub with_asked : Head → JsonMembers → JsonMembers
with_asked h ms = put (codes "words") (count h.words) (put (codes "seed") (count h.seed) (put (codes "switches") (switches_value h.switches) ms))

unfoldable pub head_value : Head → Data
head_value h = object (with_asked h (with_sizes h.config (put (codes "schema") (count 1) no_members)))

-- ---- events

-- where an output comes from
unfoldable pub with_claim : Claim → JsonMembers → JsonMembers
with_claim c ms =
    put (codes "of") (integer c.of) (put (codes "output") (integer c.output) (put (codes "offset") (integer c.offset)
    (put (codes "partition") (integer c.partition) (put (codes "topic") (text_value c.topic) ms))))

unfoldable pub claim_value : Claim → Data
claim_value c = object (with_claim c no_members)

-- null where it has none
abbrev pub claimed : Option Claim → Data
claimed None = null
claimed (Some c) = claim_value c

abbrev pub offset_or_null : Option ℤ → Data
offset_or_null None = null
offset_or_null (Some z) = integer z

-- null for the partition of the offsets
abbrev pub count_or_null : Option ℕ → Data
count_or_null None = null
count_or_null (Some n) = count n

abbrev pub with_target : ℕ → Option ℕ → JsonMembers → JsonMembers
with_target session partition ms = put (codes "partition") (count_or_null partition) (put (codes "session") (count session) ms)

-- a partition by its topic and its number there
abbrev pub with_partition : List ℕ → ℕ → JsonMembers → JsonMembers
with_partition topic partition ms = put (codes "partition") (count partition) (put (codes "topic") (text_value topic) ms)

-- the first group isn't named
unfoldable pub with_group : ℕ → JsonMembers → JsonMembers
with_group group ms = if group == 0 then ms else put (codes "group") (count group) ms

unfoldable pub with_arguments : Event → JsonMembers → JsonMembers
with_arguments (Feed source) ms = put (codes "source") (count source) ms
with_arguments (Start application) ms = put (codes "application") (count application) ms
with_arguments (Produce session partition claim) ms =
    put (codes "claim") (claimed claim) (put (codes "partition") (count partition) (put (codes "session") (count session) ms))
with_arguments (Commit session source offset) ms =
    put (codes "offset") (offset_or_null offset) (put (codes "source") (count source) (put (codes "session") (count session) ms))
with_arguments (End session kind) ms = put (codes "kind") (string (kind_word kind)) (put (codes "session") (count session) ms)
with_arguments (Resume session) ms = put (codes "session") (count session) ms
with_arguments (Fetch session source) ms = put (codes "source") (count source) (put (codes "session") (count session) ms)
with_arguments (Members group) ms = with_group group ms
with_arguments (BrokerRestart topic partition) ms = with_partition topic partition ms
with_arguments CoordinatorRestart ms = ms
with_arguments (Deliver message) ms = put (codes "message") (count message) ms
with_arguments (TimeOut application) ms = put (codes "application") (count application) ms
with_arguments (AddPartition session partition) ms = with_target session partition ms
with_arguments (WriteMarker message) ms = put (codes "message") (count message) ms
with_arguments (Complete application) ms = put (codes "application") (count application) ms
with_arguments (Elect topic partition kept) ms = put (codes "kept") (count kept) (with_partition topic partition ms)

unfoldable pub with_event : Event → JsonMembers → JsonMembers
with_event event ms = with_arguments event (put (codes "event") (string (event_word event)) ms)

-- ---- replies

unfoldable pub with_value : Reply → JsonMembers → JsonMembers
with_value (replies.Done n) ms = put (codes "value") (count n) ms
with_value replies.Fenced ms = ms
with_value replies.OutOfOrder ms = ms
with_value replies.DuplicateKept ms = ms
with_value replies.WrongState ms = ms
with_value replies.Busy ms = ms
with_value replies.StaleGeneration ms = ms
with_value replies.EpochsSpent ms = ms
with_value replies.Unknown ms = ms
with_value replies.OutOfMemory ms = ms
with_value replies.Full ms = ms

-- nothing where it isn't said
unfoldable pub with_reply : Option Reply → JsonMembers → JsonMembers
with_reply None ms = ms
with_reply (Some reply) ms = with_value reply (put (codes "reply") (string (reply_word reply)) ms)

-- ---- notes

unfoldable pub with_subject : Note → JsonMembers → JsonMembers
with_subject (notes.Lost message) ms = put (codes "message") (count message) ms
with_subject (notes.Repeated message) ms = put (codes "message") (count message) ms
with_subject (notes.Erred mishap) ms = put (codes "mishap") (text_value mishap) ms

unfoldable pub with_note : Note → JsonMembers → JsonMembers
with_note note ms = with_subject note (put (codes "note") (string (note_word note)) ms)

-- ---- the lines

unfoldable pub with_deed : Deed → JsonMembers → JsonMembers
with_deed (Asked event reply) ms = with_event event (with_reply reply ms)
with_deed (Set switches) ms = put (codes "set") (switches_value switches) ms
with_deed (Noted note) ms = with_note note ms

unfoldable pub line_value : Line → Data
line_value l = object (with_deed l.deed (put (codes "number") (count l.number) no_members))

unfoldable pub with_tail : Tail → JsonMembers → JsonMembers
with_tail t ms =
    put (codes "repeated") (count t.repeated) (put (codes "lost") (count t.lost) (put (codes "transactions") (count t.transactions)
    (put (codes "events") (count t.events) ms)))

unfoldable pub tail_value : Tail → Data
tail_value t = object (with_tail t no_members)

-- a line after the first
abbrev pub row_value : Row → Data
row_value (rows.Line l) = line_value l
row_value (rows.Tail t) = tail_value t
