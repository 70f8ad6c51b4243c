-- The value of a line has no float, nests no deeper than a JSON text may, and names each member once: so it is its text, and reads
-- back from it.
use Rattle.std.proofs.Common.{◌≡◌, ◌≤◌, ◌==◌, ℕ, ℤ, pos, negsuc, ◌+◌, List, [], ◌∷◌, ◌++◌, Bool, true, false, ◌||◌, Option, None, Some, Ordering, Less, Equal, Greater, cond, if◌then◌else◌, nat_cmp, codes, refl, arith}
use Rattle.std.specs.Cmp.Lexicographic.{slice_cmp}
use Rattle.std.specs.Ordering.{match_ordering}
use Rattle.std.specs.Str.{is_utf8}
use Rattle.hex.specs.Hex.{encode_lower}
use Rattle.serde_json.specs.Data.{Data, Members as JsonMembers, no_members, member, put, depth, items_depth, members_depth, boolean, string, object}
use Rattle.serde_json.specs.Read.{max_depth}
use Rattle.serde_json.specs.View.{items_of}
use Rattle.serde_json.specs.Written.{has_float, items_have_float, members_have_float, outline, items_outline, members_outline}
use Rattle.json.specs.Strict.{HasUniqueKeys, ItemsHaveUniqueKeys, MembersHaveUniqueKeys}
use Rattle.eos_history_lines.proofs.OnceNamed.{InOrder, put_in_order, distinct_in_order}
use Rattle.eos_machine.specs.declared.config.Config.{Config}
use Rattle.eos_machine.specs.declared.item.Claim.{Claim}
use Rattle.eos_machine.specs.declared.event.Event.{Event}
use Rattle.eos_machine.specs.declared.event.Event.TheVariants.{Feed, Start, Produce, Commit, End, Resume, Fetch, Members, BrokerRestart, CoordinatorRestart, Deliver, TimeOut, AddPartition, WriteMarker, Complete, Elect}
use Rattle.eos_machine.specs.declared.event.Reply.{Reply}
use Rattle.eos_machine.specs.declared.event.Reply.TheVariants as replies
use Rattle.eos_machine.specs.declared.switches.Switches.{Switches}
use Rattle.eos_history_lines.specs.declared.line.Head.{Head}
use Rattle.eos_history_lines.specs.declared.line.Deed.{Deed}
use Rattle.eos_history_lines.specs.declared.line.Deed.TheVariants.{Asked, Set, Noted}
use Rattle.eos_machine.specs.declared.event.Note.{Note}
use Rattle.eos_machine.specs.declared.event.Note.TheVariants as notes
use Rattle.eos_history_lines.specs.declared.line.Line.{Line}
use Rattle.eos_history_lines.specs.declared.line.Tail.{Tail}
use Rattle.eos_history_lines.specs.declared.line.Row.{Row}
use Rattle.eos_history_lines.specs.declared.line.Row.TheVariants as rows
use Rattle.eos_manifest.specs.Objects.{count, integer, text_value}
use Rattle.eos_history_lines.specs.Lines.{named_if, switch_names, switches_value, with_sizes, with_asked, head_value, with_claim, claim_value, claimed, offset_or_null, count_or_null, with_group, with_arguments, with_event, with_value, with_reply, with_subject, with_note, with_deed, line_value, with_tail, tail_value, row_value}

-- no float, at most so deep, and each member of an object once
pub record Flat (n : ℕ) (d : Data) : Type 0 where
  pub plain : has_float d ≡ false
  pub shallow : depth d ≤ n
  pub once : HasUniqueKeys (outline d)

pub record Parts (n : ℕ) (ms : JsonMembers) : Type 0 where
  pub plain : members_have_float ms ≡ false
  pub shallow : members_depth ms ≤ n
  pub once : MembersHaveUniqueKeys (members_outline ms)

first_false : (a b : Bool) → (a || b) ≡ false → a ≡ false
first_false true b h = h
first_false false b h = refl

second_false : (a b : Bool) → (a || b) ≡ false → b ≡ false
second_false true b h = absurd (cc h)
second_false false b h = h

both_false : (a b : Bool) → a ≡ false → b ≡ false → (a || b) ≡ false
both_false a b p q = rw p q

member_parts : (n : ℕ) (k : List ℕ) (d : Data) (ms : JsonMembers) → Flat n d → Parts n ms → Parts n (member k d ms)
member_parts n k d ms p q = record {
  plain = both_false (has_float d) (members_have_float ms) p.plain q.plain;
  shallow = omega (arith, p.shallow, q.shallow);
  once = (p.once, q.once);
}

head_of : (n : ℕ) (k : List ℕ) (d : Data) (ms : JsonMembers) → Parts n (member k d ms) → Flat n d
head_of n k d ms h = record { plain = first_false (has_float d) (members_have_float ms) h.plain; shallow = omega (arith, h.shallow); once = h.once.0 }

rest_of : (n : ℕ) (k : List ℕ) (d : Data) (ms : JsonMembers) → Parts n (member k d ms) → Parts n ms
rest_of n k d ms h = record { plain = second_false (has_float d) (members_have_float ms) h.plain; shallow = omega (arith, h.shallow); once = h.once.1 }

chosen : (n : ℕ) (o : Ordering) (a b c : JsonMembers) → Parts n a → Parts n b → Parts n c → Parts n (match_ordering o a b c)
chosen n Less a b c p q r = p
chosen n Equal a b c p q r = q
chosen n Greater a b c p q r = r

put_parts : (n : ℕ) (k : List ℕ) (d : Data) (ms : JsonMembers) → Flat n d → Parts n ms → Parts n (put k d ms)
put_parts n k d no_members p q = member_parts n k d no_members p q
put_parts n k d (member l e ms) p q =
    let first : Flat n e = head_of n l e ms q in
    let rest : Parts n ms = rest_of n l e ms q in
    chosen n (slice_cmp nat_cmp k l) (member k d (member l e ms)) (member l d ms) (member l e (put k d ms)) (member_parts n k d (member l e ms) p q) (member_parts n l d ms p rest)
    (member_parts n l e (put k d ms) first (put_parts n k d ms p rest))

-- and in the order of their names
pub record FlatMembers (n : ℕ) (ms : JsonMembers) : Type 0 where
  pub parts : Parts n ms
  pub order : InOrder ms

put_flat : (n : ℕ) (k : List ℕ) (d : Data) (ms : JsonMembers) → Flat n d → FlatMembers n ms → FlatMembers n (put k d ms)
put_flat n k d ms p q = record { parts = put_parts n k d ms p q.parts; order = put_in_order k d ms q.order }

none_flat : (n : ℕ) → FlatMembers n no_members
none_flat n = record { parts = record { plain = refl; shallow = omega arith; once = tt }; order = tt }

object_flat : (n : ℕ) (ms : JsonMembers) → FlatMembers n ms → Flat (n + 1) (object ms)
object_flat n ms h = record { plain = h.parts.plain; shallow = omega (arith, h.parts.shallow); once = (distinct_in_order ms h.order, h.parts.once) }

-- ---- single values

count_flat : (n m : ℕ) → Flat n (count m)
count_flat n m = record { plain = refl; shallow = omega arith; once = tt }

boolean_flat : (n : ℕ) (b : Bool) → Flat n (boolean b)
boolean_flat n b = record { plain = refl; shallow = omega arith; once = tt }

integer_flat : (n : ℕ) (z : ℤ) → Flat n (integer z)
integer_flat n (pos m) = record { plain = refl; shallow = omega arith; once = tt }
integer_flat n (negsuc m) = record { plain = refl; shallow = omega arith; once = tt }

string_flat : (n : ℕ) (text : List ℕ) → Flat n (string text)
string_flat n text = record { plain = refl; shallow = omega arith; once = tt }

topic_flat : (n : ℕ) (topic : List ℕ) → Flat (n + 1) (text_value topic)
topic_flat n topic = by (is_utf8 topic)
  where
    by : (b : Bool) → Flat (n + 1) (cond b (string topic) (object (put (codes "hex") (string (encode_lower topic)) no_members)))
    by true = string_flat (n + 1) topic
    by false = object_flat n _ (put_flat n _ _ no_members (string_flat n _) (none_flat n))

-- ---- switches

pub record FlatItems (ds : List Data) : Type 0 where
  pub plain : items_have_float (items_of ds) ≡ false
  pub shallow : items_depth (items_of ds) ≤ 0
  pub once : ItemsHaveUniqueKeys (items_outline (items_of ds))

more_items : (d : Data) (ds : List Data) → Flat 0 d → FlatItems ds → FlatItems (d ∷ ds)
more_items d ds p q = record {
  plain = both_false (has_float d) (items_have_float (items_of ds)) p.plain q.plain;
  shallow = omega (arith, p.shallow, q.shallow);
  once = (p.once, q.once);
}

no_more : FlatItems []
no_more = record { plain = refl; shallow = omega arith; once = tt }

named_after : (ds : List Data) (on : Bool) (name : List ℕ) → FlatItems ds → FlatItems (ds ++ named_if on name)
named_after [] true name h = more_items (string name) [] (string_flat 0 name) no_more
named_after [] false name h = no_more
named_after (d ∷ ds) on name h =
    more_items d (ds ++ named_if on name) (record { plain = first_false (has_float d) (items_have_float (items_of ds)) h.plain; shallow = omega (arith, h.shallow); once = h.once.0 })
    (named_after ds on name (record { plain = second_false (has_float d) (items_have_float (items_of ds)) h.plain; shallow = omega (arith, h.shallow); once = h.once.1 }))

names_flat : (s : Switches) → FlatItems (switch_names s)
names_flat s =
    named_after _ s.ignore_generation _ (named_after _ s.hide_listing _ (named_after _ s.swap_marker _ (named_after _ s.lose_marker _
    (named_after _ s.no_bump _ (named_after _ s.no_fence _ (named_after [] s.keep_duplicates _ no_more))))))

switches_flat : (n : ℕ) (s : Switches) → Flat (n + 1) (switches_value s)
unfolding switches_value
switches_flat n s = let h = names_flat s in record { plain = h.plain; shallow = omega (arith, h.shallow); once = h.once }

-- ---- the first line and the last

sizes_flat : (c : Config) (ms : JsonMembers) → FlatMembers 1 ms → FlatMembers 1 (with_sizes c ms)
unfolding with_sizes
sizes_flat c ms h =
    put_flat 1 _ _ _ (boolean_flat 1 _) (put_flat 1 _ _ _ (count_flat 1 _) (put_flat 1 _ _ _ (count_flat 1 _) (put_flat 1 _ _ _ (count_flat 1 _)
    (put_flat 1 _ _ _ (count_flat 1 _) (put_flat 1 _ _ _ (count_flat 1 _) (put_flat 1 _ _ ms (count_flat 1 _) h))))))

asked_flat : (a : Head) (ms : JsonMembers) → FlatMembers 1 ms → FlatMembers 1 (with_asked a ms)
unfolding with_asked
asked_flat a ms h = put_flat 1 _ _ _ (count_flat 1 _) (put_flat 1 _ _ _ (count_flat 1 _) (put_flat 1 _ _ ms (switches_flat 0 a.switches) h))

head_members : Head → JsonMembers
head_members a = with_asked a (with_sizes a.config (put (codes "schema") (count 1) no_members))

pub head_flat : (a : Head) → Flat 2 (head_value a)
unfolding head_value head_members
head_flat a = object_flat 1 _ (asked_flat a _ (sizes_flat a.config _ (put_flat 1 _ _ no_members (count_flat 1 _) (none_flat 1))))

tail_members : (t : Tail) (ms : JsonMembers) → FlatMembers 0 ms → FlatMembers 0 (with_tail t ms)
unfolding with_tail
tail_members t ms h = put_flat 0 _ _ _ (count_flat 0 _) (put_flat 0 _ _ _ (count_flat 0 _) (put_flat 0 _ _ _ (count_flat 0 _) (put_flat 0 _ _ ms (count_flat 0 _) h)))

pub tail_flat : (t : Tail) → Flat 1 (tail_value t)
unfolding tail_value
tail_flat t = object_flat 0 _ (tail_members t no_members (none_flat 0))

-- ---- events and replies

claim_members : (c : Claim) (ms : JsonMembers) → FlatMembers 1 ms → FlatMembers 1 (with_claim c ms)
unfolding with_claim
claim_members c ms h =
    put_flat 1 _ _ _ (integer_flat 1 c.of) (put_flat 1 _ _ _ (integer_flat 1 c.output) (put_flat 1 _ _ _ (integer_flat 1 c.offset)
    (put_flat 1 _ _ _ (integer_flat 1 c.partition) (put_flat 1 _ _ ms (topic_flat 0 c.topic) h))))

claim_flat : (c : Claim) → Flat 2 (claim_value c)
unfolding claim_value
claim_flat c = object_flat 1 _ (claim_members c no_members (none_flat 1))

claimed_flat : (c : Option Claim) → Flat 2 (claimed c)
claimed_flat None = record { plain = refl; shallow = omega arith; once = tt }
claimed_flat (Some c) = claim_flat c

offset_flat : (n : ℕ) (z : Option ℤ) → Flat n (offset_or_null z)
offset_flat n None = record { plain = refl; shallow = omega arith; once = tt }
offset_flat n (Some z) = integer_flat n z

partition_flat : (n : ℕ) (p : Option ℕ) → Flat n (count_or_null p)
partition_flat n None = record { plain = refl; shallow = omega arith; once = tt }
partition_flat n (Some p) = count_flat n p

one : (k : List ℕ) (m : ℕ) (ms : JsonMembers) → FlatMembers 2 ms → FlatMembers 2 (put k (count m) ms)
one k m ms h = put_flat 2 k (count m) ms (count_flat 2 m) h

group_flat : (g : ℕ) (ms : JsonMembers) → FlatMembers 2 ms → FlatMembers 2 (with_group g ms)
unfolding with_group
group_flat g ms h = by (g == 0)
  where
    by : (b : Bool) → FlatMembers 2 (if b then ms else put (codes "group") (count g) ms)
    by true = h
    by false = one _ g ms h

arguments_flat : (e : Event) (ms : JsonMembers) → FlatMembers 2 ms → FlatMembers 2 (with_arguments e ms)
unfolding with_arguments
arguments_flat (Feed source) ms h = one _ source ms h
arguments_flat (Start application) ms h = one _ application ms h
arguments_flat (Produce session partition claim) ms h = put_flat 2 _ _ _ (claimed_flat claim) (one _ partition _ (one _ session ms h))
arguments_flat (Commit session source offset) ms h = put_flat 2 _ _ _ (offset_flat 2 offset) (one _ source _ (one _ session ms h))
arguments_flat (End session kind) ms h = put_flat 2 _ _ _ (string_flat 2 _) (one _ session ms h)
arguments_flat (Resume session) ms h = one _ session ms h
arguments_flat (Fetch session source) ms h = one _ source _ (one _ session ms h)
arguments_flat (Members group) ms h = group_flat group ms h
arguments_flat (BrokerRestart topic partition) ms h = one _ partition _ (put_flat 2 _ _ ms (topic_flat 1 topic) h)
arguments_flat CoordinatorRestart ms h = h
arguments_flat (Deliver message) ms h = one _ message ms h
arguments_flat (TimeOut application) ms h = one _ application ms h
arguments_flat (AddPartition session partition) ms h = put_flat 2 _ _ _ (partition_flat 2 partition) (one _ session ms h)
arguments_flat (WriteMarker message) ms h = one _ message ms h
arguments_flat (Complete application) ms h = one _ application ms h
arguments_flat (Elect topic partition kept) ms h = one _ kept _ (one _ partition _ (put_flat 2 _ _ ms (topic_flat 1 topic) h))

event_flat : (e : Event) (ms : JsonMembers) → FlatMembers 2 ms → FlatMembers 2 (with_event e ms)
unfolding with_event
event_flat e ms h = arguments_flat e _ (put_flat 2 _ _ ms (string_flat 2 _) h)

value_flat : (r : Reply) (ms : JsonMembers) → FlatMembers 2 ms → FlatMembers 2 (with_value r ms)
unfolding with_value
value_flat (replies.Done m) ms h = one _ m ms h
value_flat replies.Fenced ms h = h
value_flat replies.OutOfOrder ms h = h
value_flat replies.DuplicateKept ms h = h
value_flat replies.WrongState ms h = h
value_flat replies.Busy ms h = h
value_flat replies.StaleGeneration ms h = h
value_flat replies.EpochsSpent ms h = h
value_flat replies.Unknown ms h = h
value_flat replies.OutOfMemory ms h = h
value_flat replies.Full ms h = h

reply_flat : (r : Option Reply) (ms : JsonMembers) → FlatMembers 2 ms → FlatMembers 2 (with_reply r ms)
unfolding with_reply
reply_flat None ms h = h
reply_flat (Some r) ms h = value_flat r _ (put_flat 2 _ _ ms (string_flat 2 _) h)

subject_flat : (note : Note) (ms : JsonMembers) → FlatMembers 2 ms → FlatMembers 2 (with_subject note ms)
unfolding with_subject
subject_flat (notes.Lost message) ms h = one _ message ms h
subject_flat (notes.Repeated message) ms h = one _ message ms h
subject_flat (notes.Erred mishap) ms h = put_flat 2 _ _ ms (topic_flat 1 mishap) h

note_flat : (note : Note) (ms : JsonMembers) → FlatMembers 2 ms → FlatMembers 2 (with_note note ms)
unfolding with_note
note_flat note ms h = subject_flat note _ (put_flat 2 _ _ ms (string_flat 2 _) h)

deed_flat : (d : Deed) (ms : JsonMembers) → FlatMembers 2 ms → FlatMembers 2 (with_deed d ms)
unfolding with_deed
deed_flat (Asked event reply) ms h = event_flat event _ (reply_flat reply ms h)
deed_flat (Set switches) ms h = put_flat 2 _ _ ms (switches_flat 1 switches) h
deed_flat (Noted note) ms h = note_flat note ms h

pub line_flat : (l : Line) → Flat 3 (line_value l)
unfolding line_value
line_flat l = object_flat 2 _ (deed_flat l.deed _ (one _ l.number no_members (none_flat 2)))

wider : (m n : ℕ) (d : Data) → m ≤ n → Flat m d → Flat n d
wider m n d le h = record { plain = h.plain; shallow = omega (arith, h.shallow, le); once = h.once }

pub row_flat : (r : Row) → Flat 3 (row_value r)
row_flat (rows.Line l) = line_flat l
row_flat (rows.Tail t) = wider 1 3 (tail_value t) (omega arith) (tail_flat t)

pub allowed : (n : ℕ) (d : Data) → n ≤ 3 → Flat n d → depth d ≤ max_depth
allowed n d le h = omega (arith, h.shallow, le)
