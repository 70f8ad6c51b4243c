-- What is written is a text of its batch.
use Rattle.std.proofs.Common.{◌≡◌, ℕ, suc, ◌+◌, ◌^◌, ◌<◌, ◌≤◌, pos, negsuc, List, [], ◌∷◌, length, All, Option, Some, None, refl, arith}
use Rattle.std.proofs.lemmas.List.{length-append}
use Rattle.eos_wire.specs.Varint.{IsVarint}
use Rattle.eos_wire.specs.Writing.{varint_of, varlong_of}
use Rattle.eos_wire.proofs.NumberTexts.{length-i8_text, length-i16_text, length-i32_text, length-i64_text, length-u32_text}
use Rattle.eos_wire.proofs.Spellings.{varint_shortest, varlong_shortest}
use Rattle.eos_batch.specs.declared.record.Header.{Header}
use Rattle.eos_batch.specs.declared.record.Record.{Record}
use Rattle.eos_batch.specs.declared.batch.Batch.{Batch}
use Rattle.eos_batch.specs.Text.{IsBytesText, IsOptionalText, IsHeaderText, AreHeaderTexts, IsBodyText, IsRecordText, AreRecordTexts, IsCoveredText}
use Rattle.eos_batch.specs.Encoding.{bytes_text, optional_text, header_text, headers_text, body_text, record_text, records_text, covered_text, text_with}
use Rattle.eos_batch.specs.steps.Writing.{HasRecordWidths}
use Rattle.eos_batch.proofs.EncodingSteps.{length-body_text, headers_count}

pub varint_is : (n : ℕ) → n < 2 ^ 31 → IsVarint (varint_of (pos n)) (pos n)
varint_is n lt = let s = varint_shortest (pos n) (omega arith) in s.0

pub length-bytes_text : (bytes : List ℕ) → length (bytes_text bytes) ≡ length (varint_of (pos (length bytes))) + length bytes
unfolding bytes_text
length-bytes_text bytes = length-append (varint_of (pos (length bytes))) bytes

pub bytes_are : (bytes : List ℕ) → length (bytes_text bytes) ≤ 2 ^ 30 → IsBytesText (bytes_text bytes) bytes
unfolding bytes_text
bytes_are bytes le = (varint_of (pos (length bytes)), varint_is (length bytes) (omega (arith, length-bytes_text bytes)), refl)

pub optional_is : (bytes : Option (List ℕ)) → length (optional_text bytes) ≤ 2 ^ 30 → IsOptionalText (optional_text bytes) bytes
unfolding optional_text
optional_is None le = let s = varint_shortest (negsuc 0) (omega arith) in s.0
optional_is (Some bytes) le = bytes_are bytes le

pub length-header_text : (h : Header) → length (header_text h) ≡ length (bytes_text h.key) + length (optional_text h.value)
unfolding header_text
length-header_text h = length-append (bytes_text h.key) (optional_text h.value)

pub header_is : (h : Header) → length (header_text h) ≤ 2 ^ 30 → IsHeaderText (header_text h) h
unfolding header_text
header_is h le = record {
  key = bytes_text h.key;
  value = optional_text h.value;
  key_text = bytes_are h.key (omega (arith, length-header_text h));
  value_text = optional_is h.value (omega (arith, length-header_text h));
  parts = refl;
}

pub headers_are : (hs : List Header) → length (headers_text hs) ≤ 2 ^ 30 → AreHeaderTexts (headers_text hs) hs
unfolding headers_text
headers_are [] le = refl
headers_are (h ∷ hs) le =
    let sum = length-append (header_text h) (headers_text hs) in
    (header_text h, headers_text hs, header_is h (omega (arith, sum)), headers_are hs (omega (arith, sum)), refl)

pub body_is : (place : ℕ) (r : Record) → place < 2 ^ 31 → HasRecordWidths r → length (body_text place r) ≤ 2 ^ 30 → IsBodyText place (body_text place r) r
unfolding body_text
body_is place r lt widths le =
    let sum = length-body_text place r in
    let few = headers_count r.headers in
    let long = varlong_shortest r.timestamp_delta widths.timestamp_delta in
    record {
      timestamp = varlong_of r.timestamp_delta;
      delta = varint_of (pos place);
      key = optional_text r.key;
      value = optional_text r.value;
      count = varint_of (pos (length r.headers));
      headers = headers_text r.headers;
      attributes_fit = widths.attributes;
      timestamp_text = long.0;
      delta_text = varint_is place lt;
      key_text = optional_is r.key (omega (arith, sum));
      value_text = optional_is r.value (omega (arith, sum));
      count_text = varint_is (length r.headers) (omega (arith, sum, few));
      headers_text = headers_are r.headers (omega (arith, sum));
      parts = refl;
    }

pub length-record_text : (place : ℕ) (r : Record) → length (record_text place r) ≡ length (varint_of (pos (length (body_text place r)))) + length (body_text place r)
unfolding record_text
length-record_text place r = length-bytes_text (body_text place r)

pub record_is : (place : ℕ) (r : Record) → place < 2 ^ 31 → HasRecordWidths r → length (record_text place r) ≤ 2 ^ 30 → IsRecordText place (record_text place r) r
unfolding record_text bytes_text
record_is place r lt widths le =
    let sum = length-record_text place r in
    record {
      len = varint_of (pos (length (body_text place r)));
      body = body_text place r;
      len_text = varint_is (length (body_text place r)) (omega (arith, sum));
      body_text = body_is place r lt widths (omega (arith, sum));
      parts = refl;
    }

pub records_are : (place : ℕ) (rs : List Record) → place + length rs < 2 ^ 31 → All HasRecordWidths rs → length (records_text place rs) ≤ 2 ^ 30 → AreRecordTexts place (records_text place rs) rs
unfolding records_text
records_are place [] lt widths le = refl
records_are place (r ∷ rs) lt widths le =
    let sum = length-append (record_text place r) (records_text (suc place) rs) in (
      record_text place r,
      records_text (suc place) rs,
      record_is place r (omega arith) (widths 0 r (omega arith)) (omega (arith, sum)),
      records_are (suc place) rs (omega arith) (λ k d lt. widths (suc k) d (omega arith)) (omega (arith, sum)),
      refl,
    )

pub covered_is : (b : Batch) → length b.records < 2 ^ 31 → All HasRecordWidths b.records → length (records_text 0 b.records) ≤ 2 ^ 30 → IsCoveredText (covered_text b) b
unfolding covered_text
covered_is b lt widths le = record { records = records_text 0 b.records; records_text = records_are 0 b.records (omega arith) widths le; parts = refl }

-- ---- the batch

pub length-text_with : (b : Batch) (covered : List ℕ) → length (text_with b covered) ≡ 21 + length covered
unfolding text_with
length-text_with b covered =
    simp (length-append, length-i64_text, length-i32_text, length-i8_text, length-u32_text) (omega arith)

pub length-covered_text : (b : Batch) → length (covered_text b) ≡ 40 + length (records_text 0 b.records)
unfolding covered_text
length-covered_text b =
    simp (length-append, length-i64_text, length-i32_text, length-i16_text) (omega arith)
