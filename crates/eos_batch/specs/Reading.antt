-- Reading a record batch step by step, with the first step that fails: the order of the refusals.
--
--   Truncated   fewer than 12 bytes are left
--   Length      the length is below 49
--   Truncated   fewer bytes are left than the length says
--   Magic       it is not 2
--   Crc         the checksum differs
--   Compressed  a compression bit is set
--   Count       the count is below 1 or not the last offset delta plus 1, or an offset is below 0 or past the greatest i64
--   Varint, Record, Delta    record by record, its fields in order
--   Trailing    bytes are left after the last record
--   Control     a control batch is not one control record that reads
--   Producer    transactional data or an end marker names no producer, or a producer has no epoch
--
-- A length of 49 or more has all fields of the header, so none of them is ever missing where it is read.
use Rattle.std.specs.Prelude.{ℕ, zero, suc, ◌+◌, ◌-◌, ℤ, pos, negsuc, ◌+ℤ◌, List, [], ◌∷◌, length, take, drop, Option, Some, None, Result, Ok, Err, Bool, nat_lt, ◌==◌, ◌&&◌, ◌^◌, not, int_lt, int_le, if◌then◌else◌}
use Rattle.std.specs.Ordering.{int_eq}
use Rattle.eos_base.specs.Fallible.{◌>>=◌, or_fault, must}
use Rattle.eos_wire.specs.Varint.{varint_at, varlong_at}
use Rattle.eos_wire.specs.Numbers.{i8_at, i16_at, i32_at, i64_at, u32_at}
use Rattle.eos_wire.specs.Crc.{crc32c_of}
use Rattle.eos_batch.specs.declared.fault.BatchFault.{BatchFault}
use Rattle.eos_batch.specs.declared.fault.BatchFault.TheVariants as faults
use Rattle.eos_batch.specs.declared.record.Header.{Header}
use Rattle.eos_batch.specs.declared.record.Record.{Record}
use Rattle.eos_batch.specs.declared.batch.Batch.{Batch}
use Rattle.eos_batch.specs.declared.decode.Head.{Head}
use Rattle.eos_batch.specs.Attributes.{is_compressed}
use Rattle.eos_batch.specs.Marker.{has_right_control}
use Rattle.eos_batch.specs.Rules.{has_right_producer}

-- ---- numbers and bytes within a record

abbrev pub number_from : List ℕ → Option (ℤ × ℕ) → Result (ℤ × List ℕ) BatchFault
number_from bytes None = Err faults.Varint
number_from bytes (Some found) = Ok (found.0, drop found.1 bytes)

unfoldable pub int_at : List ℕ → Result (ℤ × List ℕ) BatchFault
int_at bytes = number_from bytes (varint_at bytes)

unfoldable pub long_at : List ℕ → Result (ℤ × List ℕ) BatchFault
long_at bytes = number_from bytes (varlong_at bytes)

-- a number that is not below 0
abbrev pub count_from : ℤ → List ℕ → Result (ℕ × List ℕ) BatchFault
count_from (pos n) bytes = Ok (n, bytes)
count_from (negsuc n) bytes = Err faults.Record

unfoldable pub count_at : List ℕ → Result (ℕ × List ℕ) BatchFault
count_at bytes = do
  z ← int_at bytes
  count_from z.0 z.1

-- that many bytes
abbrev pub take_at : ℕ → List ℕ → Result (List ℕ × List ℕ) BatchFault
take_at n bytes = if nat_lt (length bytes) n then Err faults.Record else Ok (take n bytes, drop n bytes)

unfoldable pub bytes_at : List ℕ → Result (List ℕ × List ℕ) BatchFault
bytes_at bytes = do
  n ← count_at bytes
  take_at n.0 n.1

-- null at -1
abbrev pub optional_from : ℤ → List ℕ → Result (Option (List ℕ) × List ℕ) BatchFault
optional_from (pos n) bytes = take_at n bytes >>= λ x. Ok (Some x.0, x.1)
optional_from (negsuc zero) bytes = Ok (None, bytes)
optional_from (negsuc (suc n)) bytes = Err faults.Record

unfoldable pub optional_at : List ℕ → Result (Option (List ℕ) × List ℕ) BatchFault
optional_at bytes = do
  z ← int_at bytes
  optional_from z.0 z.1

-- ---- headers and records

unfoldable pub header_at : List ℕ → Result (Header × List ℕ) BatchFault
header_at bytes = do
  key ← bytes_at bytes
  value ← optional_at key.1
  Ok (record { key = key.0; value = value.0 }, value.1)

unfoldable pub headers_at : ℕ → List ℕ → Result (List Header × List ℕ) BatchFault
headers_at zero bytes = Ok ([], bytes)
headers_at (suc n) bytes = do
  first ← header_at bytes
  others ← headers_at n first.1
  Ok (first.0 ∷ others.0, others.1)

-- a record without its length, and its offset delta
unfoldable pub body_at : List ℕ → Result ((ℤ × Record) × List ℕ) BatchFault
body_at bytes = do
  attributes ← or_fault faults.Record (i8_at bytes)
  timestamp ← long_at attributes.1
  delta ← int_at timestamp.1
  key ← optional_at delta.1
  value ← optional_at key.1
  count ← count_at value.1
  headers ← headers_at count.0 count.1
  Ok ((delta.0, record { attributes = attributes.0; timestamp_delta = timestamp.0; key = key.0; value = value.0; headers = headers.0 }), headers.1)

-- nothing is left
abbrev pub used_up : {X : Type 0} → BatchFault → X × List ℕ → Result X BatchFault
used_up fault read = must (length read.1 == 0) fault read.0

-- the same with nothing after it, at this place of its batch
unfoldable pub placed_at : ℕ → List ℕ → Result Record BatchFault
placed_at place bytes = do
  body ← body_at bytes
  whole ← used_up faults.Record body
  must (int_eq whole.0 (pos place)) faults.Delta whole.1

-- a length and that many bytes of a record
unfoldable pub record_at : ℕ → List ℕ → Result (Record × List ℕ) BatchFault
record_at place bytes = do
  text ← bytes_at bytes
  r ← placed_at place text.0
  Ok (r, text.1)

-- so many records, the first of them at this place
unfoldable pub records_at : ℕ → ℕ → List ℕ → Result (List Record × List ℕ) BatchFault
records_at zero place bytes = Ok ([], bytes)
records_at (suc n) place bytes = do
  first ← record_at place bytes
  others ← records_at n (suc place) first.1
  Ok (first.0 ∷ others.0, others.1)

-- ---- the batch

-- at least an empty batch's length
abbrev pub length_from : ℤ → Result ℕ BatchFault
length_from (pos n) = must (not (nat_lt n 49)) faults.Length n
length_from (negsuc n) = Err faults.Length

-- the base offset, and the bytes that the length counts
unfoldable pub frame_at : List ℕ → Result (ℤ × List ℕ) BatchFault
frame_at bytes = do
  base ← or_fault faults.Truncated (i64_at bytes)
  len ← or_fault faults.Truncated (i32_at base.1)
  n ← length_from len.0
  must (not (nat_lt (length len.1) n)) faults.Truncated (base.0, take n len.1)

-- the leader epoch, and the bytes that the checksum covers
unfoldable pub sealed_at : List ℕ → Result (ℤ × List ℕ) BatchFault
sealed_at bytes = do
  leader_epoch ← or_fault faults.Truncated (i32_at bytes)
  magic ← or_fault faults.Truncated (i8_at leader_epoch.1)
  right ← must (int_eq magic.0 (pos 2)) faults.Magic magic
  checksum ← or_fault faults.Truncated (u32_at right.1)
  must (checksum.0 == crc32c_of checksum.1) faults.Crc (leader_epoch.0, checksum.1)

-- the fields before the records
unfoldable pub head_at : ℤ → ℤ → List ℕ → Result (Head × List ℕ) BatchFault
head_at base leader_epoch bytes = do
  attributes ← or_fault faults.Truncated (i16_at bytes)
  last ← or_fault faults.Truncated (i32_at attributes.1)
  base_timestamp ← or_fault faults.Truncated (i64_at last.1)
  max_timestamp ← or_fault faults.Truncated (i64_at base_timestamp.1)
  producer ← or_fault faults.Truncated (i64_at max_timestamp.1)
  epoch ← or_fault faults.Truncated (i16_at producer.1)
  sequence ← or_fault faults.Truncated (i32_at epoch.1)
  count ← or_fault faults.Truncated (i32_at sequence.1)
  Ok (
    record {
      last_offset_delta = last.0;
      count = count.0;
      batch = record {
        base_offset = base;
        leader_epoch = leader_epoch;
        attributes = attributes.0;
        base_timestamp = base_timestamp.0;
        max_timestamp = max_timestamp.0;
        producer = producer.0;
        epoch = epoch.0;
        sequence = sequence.0;
        records = [];
      };
    },
    count.1,
  )

-- there is a record, and the count is the last offset delta plus 1
abbrev pub count_fits : Head → Bool
count_fits head = int_lt (pos 0) head.count && int_eq head.count (head.last_offset_delta +ℤ pos 1)

-- the offsets lie from 0 to the greatest i64
abbrev pub offsets_fit : Head → Bool
offsets_fit head = int_le (pos 0) head.batch.base_offset && int_le (head.batch.base_offset +ℤ head.last_offset_delta) (pos (2 ^ 63 - 1))

-- so many records, which take all bytes
abbrev pub all_records_at : ℤ → List ℕ → Result (List Record) BatchFault
all_records_at (pos n) bytes = records_at n 0 bytes >>= used_up faults.Trailing
all_records_at (negsuc n) bytes = Err faults.Count

abbrev pub with_records : Batch → List Record → Batch
with_records b rs = record b { records = rs }

-- the batch whose checksum covers these bytes
unfoldable pub covered_at : ℤ → ℤ → List ℕ → Result Batch BatchFault
covered_at base leader_epoch bytes = do
  head ← head_at base leader_epoch bytes
  plain ← must (not (is_compressed head.0.batch.attributes)) faults.Compressed head
  counted ← must (count_fits plain.0) faults.Count plain
  fitting ← must (offsets_fit counted.0) faults.Count counted
  records ← all_records_at fitting.0.count fitting.1
  Ok (with_records fitting.0.batch records)

-- The batch at the front and how many bytes it takes, or the first step that fails.
unfoldable pub batch_at : List ℕ → Result (Batch × ℕ) BatchFault
batch_at bytes = do
  frame ← frame_at bytes
  sealed ← sealed_at frame.1
  batch ← covered_at frame.0 sealed.0 sealed.1
  controlled ← must (has_right_control batch) faults.Control batch
  right ← must (has_right_producer controlled) faults.Producer controlled
  Ok (right, 12 + length frame.1)
