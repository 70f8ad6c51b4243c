-- What a first pass of Kafka's log cleaner leaves of a partition's log: of each key the last record.
-- Source: Kafka's documentation, "Log Compaction" and "Record Batch" (what a batch keeps there); KIP-98, "Discussion of Log Compaction"; and the
-- class Cleaner of org.apache.kafka.storage.internals.log. The last file, to which brokers append, isn't read for it and stays. Records without a
-- key go, and those of aborted transactions; end markers stay, and so do deletions, which a later pass takes. Offsets, sequences and times of a
-- batch stay with what is left of it.
use Rattle.std.specs.Prelude.{ℕ, zero, suc, ◌+◌, ◌^◌, ◌==◌, ℤ, pos, negsuc, List, [], ◌∷◌, ◌++◌, Bool, true, false, not, ◌&&◌, ◌||◌, if◌then◌else◌, nat_lt, int_le, length, take, drop, map, flat_map, bytes_eq, Option, None, Some, Result, Ok, Err}
use Rattle.std.specs.List.{list_any}
use Rattle.std.specs.Ordering.{int_eq}
use Rattle.eos_wire.specs.Numbers.{u32_text}
use Rattle.eos_wire.specs.Varint.{varint_at}
use Rattle.eos_batch.specs.declared.batch.Batch.{Batch}
use Rattle.eos_batch.specs.declared.fault.BatchFault.{BatchFault}
use Rattle.eos_batch.specs.declared.marker.Kind.{Kind}
use Rattle.eos_batch.specs.declared.marker.Kind.TheVariants.{Commit, Abort}
use Rattle.eos_batch.specs.declared.marker.Marker.{Marker}
use Rattle.eos_batch.specs.declared.record.Record.{Record}
use Rattle.eos_batch.specs.Attributes.{is_control, is_transactional}
use Rattle.eos_batch.specs.Marker.{marker_of}
use Rattle.eos_batch.specs.Reading.{batch_at}
use Rattle.eos_evidence.specs.declared.segment.Segment.{Segment}
use Rattle.eos_simulate.specs.declared.cleaning.Logged.{Logged}
use Rattle.eos_simulate.specs.declared.mistake.Mistake.{Mistake}
use Rattle.eos_simulate.specs.CopiedFiles.{is_file_of, sealed}

-- ---- the log, batch by batch

abbrev pub logged_from : ℤ → List ℕ → (List ℕ → List Logged) → Result (Batch × ℕ) BatchFault → List Logged
logged_from base bytes others (Ok read) = record { base = base; batch = read.0; text = take read.1 bytes } ∷ others (drop read.1 bytes)
logged_from base bytes others (Err fault) = []

-- the first batches of a file, so many at most, up to what is none
abbrev pub logged_in : ℕ → ℤ → List ℕ → List Logged
logged_in zero base bytes = []
logged_in (suc n) base bytes = logged_from base bytes (logged_in n base) (batch_at bytes)

abbrev pub logged_of : Mistake → Segment → List Logged
logged_of m s = if is_file_of m s then logged_in (length s.bytes) s.base s.bytes else []

abbrev pub log_of : Mistake → List Segment → List Logged
log_of m files = flat_map (logged_of m) files

-- ---- whose records are looked at: of a batch and those behind it

abbrev pub is_data : Logged → Bool
is_data l = not (is_control l.batch.attributes)

-- another file follows
abbrev pub is_closed : Logged → List Logged → Bool
is_closed l ls = list_any (λ x. not (int_eq x.base l.base)) ls

abbrev pub is_abort : Kind → Bool
is_abort Commit = false
is_abort Abort = true

abbrev pub aborts : ℤ → Option Marker → Option Bool
aborts p None = None
aborts p (Some m) = if int_eq m.producer p then Some (is_abort m.kind) else None

abbrev pub or_later : Bool → Option Bool → Bool
or_later later None = later
or_later later (Some now) = now

-- the next end marker of this producer id aborts
abbrev pub is_aborted_in : ℤ → List Logged → Bool
is_aborted_in p [] = false
is_aborted_in p (l ∷ ls) = or_later (is_aborted_in p ls) (aborts p (marker_of l.batch))

abbrev pub is_aborted : Logged → List Logged → Bool
is_aborted l ls = is_transactional l.batch.attributes && is_aborted_in l.batch.producer ls

abbrev pub is_live : Logged → List Logged → Bool
is_live l ls = is_data l && is_closed l ls && not (is_aborted l ls)

-- ---- which records stay

abbrev pub is_key : List ℕ → Option (List ℕ) → Bool
is_key key None = false
is_key key (Some other) = bytes_eq other key

abbrev pub has_key : List ℕ → List Record → Bool
has_key key rs = list_any (λ r. is_key key r.key) rs

-- this batch has a record with this key, and counts
abbrev pub supersedes : List ℕ → Logged → List Logged → Bool
supersedes key l ls = has_key key l.batch.records && is_live l ls

-- a later record has this key
abbrev pub is_superseded : List ℕ → List Logged → Bool
is_superseded key [] = false
is_superseded key (l ∷ ls) = supersedes key l ls || is_superseded key ls

-- with this key, before these records of its batch and these batches
abbrev pub stays : Option (List ℕ) → List Record → List Logged → Bool
stays None rs ls = false
stays (Some key) rs ls = not (has_key key rs) && not (is_superseded key ls)

abbrev pub one_if : Bool → ℕ
one_if there = if there then 1 else 0

abbrev pub left_count : List Record → List Logged → ℕ
left_count [] ls = 0
left_count (r ∷ rs) ls = one_if (stays r.key rs ls) + left_count rs ls

-- ---- their bytes

-- a record takes the bytes of its length and as many as this says
abbrev pub said_by : Option (ℤ × ℕ) → ℕ
said_by None = 0
said_by (Some (pos n, len)) = len + n
said_by (Some (negsuc n, len)) = 0

abbrev pub first_size : List ℕ → ℕ
first_size text = said_by (varint_at text)

abbrev pub text_if : Bool → List ℕ → List ℕ
text_if there text = if there then text else []

abbrev pub left_text : List Record → List ℕ → List Logged → List ℕ
left_text [] text ls = []
left_text (r ∷ rs) text ls = text_if (stays r.key rs ls) (take (first_size text) text) ++ left_text rs (drop (first_size text) text) ls

-- A batch takes 61 bytes before its records: its length, which counts the bytes behind it, stands at byte 8, its checksum at 17, the number of
-- its records at 57. No batch of a segment has more bytes than 2^30.
abbrev pub has_room : List ℕ → ℕ → List ℕ → Bool
has_room text count records = not (nat_lt (length text) 61) && nat_lt count (2 ^ 30) && nat_lt (length records) (2 ^ 30)

-- the batch with so many records, which are these bytes
abbrev pub with_left : List ℕ → ℕ → List ℕ → List ℕ
with_left text count records =
    if has_room text count records then sealed (take 8 text ++ (u32_text (49 + length records) ++ (take 45 (drop 12 text) ++ (u32_text count ++ records)))) else text

-- ---- what is left

abbrev pub is_data_of : Logged → Logged → Bool
is_data_of l x = is_data x && int_eq x.batch.producer l.batch.producer

abbrev pub has_data_of : Logged → List Logged → Bool
has_data_of l ls = list_any (is_data_of l) ls

-- no data of its producer id follows: brokers know the last sequence by it
abbrev pub is_last_of_producer : Logged → List Logged → Bool
is_last_of_producer l ls = int_le (pos 0) l.batch.producer && not (has_data_of l ls)

-- of a batch of which these records aren't aborted
abbrev pub left_batch : Logged → List Record → List Logged → List ℕ
left_batch l rs ls = if left_count rs ls == 0 && not (is_last_of_producer l ls) then [] else with_left l.text (left_count rs ls) (left_text rs (drop 61 l.text) ls)

abbrev pub live_records : Logged → List Logged → List Record
live_records l ls = if is_aborted l ls then [] else l.batch.records

abbrev pub left_of : Logged → List Logged → List ℕ
left_of l ls = if is_data l && is_closed l ls then left_batch l (live_records l ls) ls else l.text

-- in the file of this name
abbrev pub left_here : ℤ → Logged → List Logged → List ℕ
left_here base l ls = if int_eq l.base base then left_of l ls else []

abbrev pub left_in : ℤ → List Logged → List ℕ
left_in base [] = []
left_in base (l ∷ ls) = left_here base l ls ++ left_in base ls

abbrev pub cleaned_file : Mistake → List Logged → Segment → Segment
cleaned_file m log s = if is_file_of m s then record s { bytes = left_in s.base log } else s

-- the log of the partition, and those of others
abbrev pub cleaned_files : Mistake → List Segment → List Segment
cleaned_files m files = map (cleaned_file m (log_of m files)) files
