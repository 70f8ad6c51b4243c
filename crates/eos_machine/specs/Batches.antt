-- The batches of a cluster's logs (Kafka's Message Format, "Record Batch" and "Control Batches"; its schemas TransactionLogKey
-- and TransactionLogValue in version 1, OffsetCommitKey in version 1 and OffsetCommitValue in version 3).
use Rattle.std.specs.Prelude.{◌≡◌, ℕ, zero, suc, ◌+◌, ◌-◌, ℤ, pos, negsuc, ◌-ℤ◌, List, [], ◌∷◌, ◌++◌, map, take, length, slice_index_or, codes, Option, Some, None, Result, Ok, Err, ⊤, nat_lt, if◌then◌else◌}
use Rattle.eos_base.specs.declared.record_fault.RecordFault.{RecordFault}
use Rattle.eos_wire.specs.Numbers.{i16_text, i32_text, i64_text}
use Rattle.eos_batch.specs.declared.marker.Kind.{Kind}
use Rattle.eos_batch.specs.declared.marker.Kind.TheVariants.{Commit, Abort}
use Rattle.eos_batch.specs.declared.record.Header.{Header}
use Rattle.eos_batch.specs.declared.record.Record.{Record}
use Rattle.eos_batch.specs.declared.batch.Batch.{Batch}
use Rattle.eos_batch.specs.Text.{IsBatchText}
use Rattle.eos_batch.specs.Encoding.{batch_text_of}
use Rattle.eos_txnlog.specs.Reading.{read_value}
use Rattle.eos_txnlog.specs.Writing as txnlog
use Rattle.eos_offsets.specs.declared.key.OffsetKey.{OffsetKey}
use Rattle.eos_offsets.specs.declared.value.Commit.{Commit as OffsetCommit}
use Rattle.eos_offsets.specs.Writing as offsets
use Rattle.eos_machine.specs.declared.config.Config.{Config}
use Rattle.eos_machine.specs.declared.item.Claim.{Claim}
use Rattle.eos_machine.specs.declared.item.Item.{Item}
use Rattle.eos_machine.specs.declared.item.Item.TheVariants.{Fed, State, Output, Offset, Marker}
use Rattle.eos_machine.specs.declared.item.Entry.{Entry}
use Rattle.eos_machine.specs.LogIndexes.{input_topic, output_topic}
use Rattle.eos_machine.specs.Rest.{producer_id, value_of}
use Rattle.eos_machine.specs.World.{Election}
use Rattle.eos_machine.specs.Elections.{leader_epoch}
use Rattle.eos_machine.specs.declared.writer.Writer.{Writer}
use Rattle.eos_machine.specs.Grouping.{joining}

-- the group that reads `in`, and the one that reads `out`
abbrev pub group : List ℕ
group = codes "g"

abbrev pub second_group : List ℕ
second_group = codes "h"

-- app- and the number of the application, which has one digit
abbrev pub transactional_id : ℕ → List ℕ
transactional_id a = codes "app-" ++ (48 + a) ∷ []

-- what is written, and nothing where that is refused
abbrev pub bytes_of : Result (List ℕ) RecordFault → List ℕ
bytes_of (Ok bytes) = bytes
bytes_of (Err fault) = []

-- ---- records

abbrev pub record_of : Option (List ℕ) → Option (List ℕ) → List Header → Record
record_of key value headers = record { attributes = pos 0; timestamp_delta = pos 0; key = key; value = value; headers = headers }

-- an input's value is the number of its event
abbrev pub fed_record : ℕ → Record
fed_record n = record_of None (Some (i64_text (pos n))) []

abbrev pub state_record : Config → ℕ → Entry → ℕ → Record
state_record c a x n = record_of (Some (bytes_of (txnlog.write_key (transactional_id a)))) (Some (bytes_of (txnlog.write_value (pos 1) (value_of c a x n)))) []

abbrev pub header : List ℕ → List ℕ → Header
header key value = record { key = key; value = Some value }

abbrev pub claim_headers : Claim → List Header
claim_headers x =
    header (codes "eo.topic") x.topic ∷ header (codes "eo.partition") (i32_text x.partition) ∷ header (codes "eo.offset") (i64_text x.offset)
    ∷ header (codes "eo.output") (i32_text x.output) ∷ header (codes "eo.of") (i32_text x.of) ∷ []

-- a record without a claim has none
abbrev pub headers_of : Option Claim → List Header
headers_of None = []
headers_of (Some x) = claim_headers x

abbrev pub output_record : Option Claim → ℕ → Record
output_record x v = record_of None (Some (i64_text (pos v))) (headers_of x)

-- the sources are the partitions of `in`, and after them those of `out`, each of its group
abbrev pub source_key : Config → ℕ → OffsetKey
source_key c q =
    if nat_lt q c.inputs
    then record { group = group; topic = input_topic; partition = pos q }
    else record { group = second_group; topic = output_topic; partition = pos (q - c.inputs) }

abbrev pub commit_of : OffsetKey → ℤ → OffsetCommit
commit_of k v = record { group = k.group; topic = k.topic; partition = k.partition; offset = v }

-- a commit that deletes the offset has no value: it is a tombstone
abbrev pub commit_value : OffsetKey → Option ℕ → Option (List ℕ)
commit_value k None = None
commit_value k (Some v) = Some (bytes_of (offsets.write_value (commit_of k (pos v)) (pos 3)))

abbrev pub offset_record : Config → ℕ → Option ℕ → Record
offset_record c q v = record_of (Some (bytes_of (offsets.write_key (source_key c q)))) (commit_value (source_key c q) v) []

abbrev pub control_type : Kind → ℤ
control_type Abort = pos 0
control_type Commit = pos 1

-- version 0 and the type; version 0 and the coordinator's epoch, 0
abbrev pub marker_record : Kind → Record
marker_record k = record_of (Some (i16_text (pos 0) ++ i16_text (control_type k))) (Some (i16_text (pos 0) ++ i32_text (pos 0))) []

-- ---- batches

abbrev pub plain : Writer
plain = record { attributes = pos 0; producer = negsuc 0; epoch = negsuc 0; sequence = negsuc 0 }

abbrev pub transactional : ℕ → ℕ → ℤ → Writer
transactional a e q = record { attributes = pos 16; producer = producer_id a; epoch = pos e; sequence = q }

abbrev pub control : ℕ → ℕ → Writer
control a e = record { attributes = pos 48; producer = producer_id a; epoch = pos e; sequence = negsuc 0 }

-- ---- an item

-- the event that appended it
abbrev pub event_of : Item → ℕ
event_of (Fed n) = n
event_of (State a x n) = n
event_of (Output a e s x v n) = n
event_of (Offset a e q v n) = n
event_of (Marker a e k n) = n

abbrev pub item_writer : Item → Writer
item_writer (Fed n) = plain
item_writer (State a x n) = plain
item_writer (Output a e s x v n) = transactional a e (pos s)
item_writer (Offset a e q v n) = transactional a e (negsuc 0)
item_writer (Marker a e k n) = control a e

-- its record, as it is in a batch of its own
abbrev pub item_record : Config → Item → Record
item_record c (Fed n) = fed_record n
item_record c (State a x n) = state_record c a x n
item_record c (Output a e s x v n) = output_record x v
item_record c (Offset a e q v n) = offset_record c q v
item_record c (Marker a e k n) = marker_record k

abbrev pub delayed : Record → ℤ → Record
delayed r delta = record { attributes = r.attributes; timestamp_delta = delta; key = r.key; value = r.value; headers = r.headers }

-- its record in a batch that begins at the time of this event
abbrev pub record_after : Config → ℕ → Item → Record
record_after c n x = delayed (item_record c x) (pos (event_of x) -ℤ pos n)

-- ---- the batches of a log

-- the last of these, or the one before them where there is none
abbrev pub last_or : Item → List Item → Item
last_or x ys = slice_index_or ys (length ys - 1) x

-- at this offset an item and those that stand behind it, by the writer of the first, from its time to that of the last; before any
-- election
abbrev pub batch_of : Config → ℕ → Item → List Item → Batch
batch_of c o x ys = record {
  base_offset = pos o;
  leader_epoch = pos 0;
  attributes = (item_writer x).attributes;
  base_timestamp = pos (event_of x);
  max_timestamp = pos (event_of (last_or x ys));
  producer = (item_writer x).producer;
  epoch = (item_writer x).epoch;
  sequence = (item_writer x).sequence;
  records = map (record_after c (event_of x)) (x ∷ ys);
}

-- how many stand in the batch of an item
abbrev pub behind : Config → Item → List Item → ℕ
behind c x xs = joining (c.batch_records - 1) x xs

-- the batches of items, the first of them at this offset, of which so many at the front stand in a batch already
abbrev pub batches_after : Config → ℕ → ℕ → List Item → List Batch
batches_after c n o [] = []
batches_after c zero o (x ∷ xs) = batch_of c o x (take (behind c x xs) xs) ∷ batches_after c (behind c x xs) (o + 1) xs
batches_after c (suc n) o (x ∷ xs) = batches_after c n (o + 1) xs

-- items one after the other as batches, the first of them at this offset
abbrev pub batches_from : Config → ℕ → List Item → List Batch
batches_from c o xs = batches_after c 0 o xs

-- a batch of the log at an index, in the leader epoch of its base offset
abbrev pub led : ℕ → List Election → Batch → Batch
led p es b = record b { leader_epoch = pos (leader_epoch p b.base_offset es) }

-- the bytes of batches one after the other
abbrev pub texts_of : List Batch → List ℕ
texts_of [] = []
texts_of (b ∷ bs) = batch_text_of b ++ texts_of bs

-- ---- what is written reads back

-- each batch's bytes are a text of it
abbrev pub AreTexts : List Batch → Type 0
AreTexts [] = ⊤
AreTexts (b ∷ bs) = IsBatchText (batch_text_of b) b × AreTexts bs

-- the value of a state's record
abbrev pub Reads : Config → Item → Type 0
Reads c (Fed n) = ⊤
Reads c (State a x n) = read_value (bytes_of (txnlog.write_value (pos 1) (value_of c a x n))) ≡ Ok (value_of c a x n)
Reads c (Output a e s x v n) = ⊤
Reads c (Offset a e q v n) = ⊤
Reads c (Marker a e k n) = ⊤

abbrev pub AreRead : Config → List Item → Type 0
AreRead c [] = ⊤
AreRead c (x ∷ xs) = Reads c x × AreRead c xs
