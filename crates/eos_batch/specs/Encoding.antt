-- The text that a record batch is written as (Kafka's documentation, "Message Format": record batch, record, header): each
-- variable-length number in its shortest spelling, the parts in the order of the layout. And the order of the refusals:
--
--   Compressed  a compression bit is set
--   Count       there is no record or too many to count, or an offset is below 0 or past the greatest i64
--   Control     a control batch is not one control record that reads
--   Producer    transactional data or an end marker names no producer, or a producer has no epoch
--   Length      the text takes more than 2^30 bytes, the most that a segment has
use Rattle.std.specs.Prelude.{ℕ, suc, ◌+◌, ◌^◌, ◌<◌, pos, negsuc, ◌+ℤ◌, List, [], ◌∷◌, ◌++◌, length, Option, Some, None, Result, Ok, Bool, nat_lt, ◌&&◌, not, int_le}
use Rattle.eos_wire.specs.Numbers.{i8_text, i16_text, i32_text, i64_text, u32_text}
use Rattle.eos_wire.specs.Writing.{varint_of, varlong_of}
use Rattle.eos_wire.specs.Crc.{crc32c_of}
use Rattle.eos_batch.specs.declared.fault.BatchFault.{BatchFault}
use Rattle.eos_batch.specs.declared.fault.BatchFault.TheVariants as faults
use Rattle.eos_batch.specs.declared.record.Header.{Header}
use Rattle.eos_batch.specs.declared.record.Record.{Record}
use Rattle.eos_batch.specs.declared.batch.Batch.{Batch}
use Rattle.eos_batch.specs.Attributes.{is_compressed}
use Rattle.eos_batch.specs.Marker.{has_right_control}
use Rattle.eos_batch.specs.Rules.{has_right_producer}
use Rattle.eos_batch.specs.Text.{last_offset_delta, IsBatchText}
use Rattle.eos_base.specs.Fallible.{◌>>=◌, must}

-- a length and that many bytes
unfoldable pub bytes_text : List ℕ → List ℕ
bytes_text bytes = varint_of (pos (length bytes)) ++ bytes

-- the same, or the length -1 for null
unfoldable pub optional_text : Option (List ℕ) → List ℕ
optional_text None = varint_of (negsuc 0)
optional_text (Some bytes) = bytes_text bytes

unfoldable pub header_text : Header → List ℕ
header_text h = bytes_text h.key ++ optional_text h.value

unfoldable pub headers_text : List Header → List ℕ
headers_text [] = []
headers_text (h ∷ hs) = header_text h ++ headers_text hs

-- the record at this place of its batch, without its length
unfoldable pub body_text : ℕ → Record → List ℕ
body_text place r =
    i8_text r.attributes ++ (varlong_of r.timestamp_delta ++ (varint_of (pos place) ++ (optional_text r.key ++ (optional_text r.value
    ++ (varint_of (pos (length r.headers)) ++ headers_text r.headers)))))

unfoldable pub record_text : ℕ → Record → List ℕ
record_text place r = bytes_text (body_text place r)

-- records one after the other, the first of them at this place
unfoldable pub records_text : ℕ → List Record → List ℕ
records_text place [] = []
records_text place (r ∷ rs) = record_text place r ++ records_text (suc place) rs

-- what the checksum covers: from the attributes to the end
unfoldable pub covered_text : Batch → List ℕ
covered_text b =
    i16_text b.attributes ++ (i32_text (pos (last_offset_delta b)) ++ (i64_text b.base_timestamp ++ (i64_text b.max_timestamp
    ++ (i64_text b.producer ++ (i16_text b.epoch ++ (i32_text b.sequence ++ (i32_text (pos (length b.records)) ++ records_text 0 b.records)))))))

-- The length counts the bytes after itself: a leader epoch, a magic and a checksum, which are 9, and what is covered.
unfoldable pub text_with : Batch → List ℕ → List ℕ
text_with b covered =
    i64_text b.base_offset ++ (i32_text (pos (9 + length covered)) ++ (i32_text b.leader_epoch ++ (i8_text (pos 2)
    ++ (u32_text (crc32c_of covered) ++ covered))))

abbrev pub batch_text_of : Batch → List ℕ
batch_text_of b = text_with b (covered_text b)

-- ---- refusals

abbrev pub is_counted : Batch → Bool
is_counted b =
    nat_lt 0 (length b.records) && nat_lt (length b.records) (2 ^ 31) && int_le (pos 0) b.base_offset
    && int_le (b.base_offset +ℤ pos (length b.records)) (pos (2 ^ 63))

abbrev pub is_short : Batch → Bool
is_short b = not (nat_lt (2 ^ 30) (length (batch_text_of b)))

-- nothing, or the first test that the batch fails
unfoldable pub tested : Batch → Result (Unit {0}) BatchFault
tested b = do
  plain ← must (not (is_compressed b.attributes)) faults.Compressed (tt {0})
  counted ← must (is_counted b) faults.Count (tt {0})
  controlled ← must (has_right_control b) faults.Control (tt {0})
  produced ← must (has_right_producer b) faults.Producer (tt {0})
  must (is_short b) faults.Length (tt {0})

-- The text of the batch, or the first test that it fails.
unfoldable pub encoding_of : Batch → Result (List ℕ) BatchFault
encoding_of b = do
  right ← tested b
  Ok (batch_text_of b)

-- none of its texts is one that a segment has room for
abbrev pub HasNoText : Batch → Type 0
HasNoText b = (text : List ℕ) → IsBatchText text b → 2 ^ 30 < length text
