-- No text of a batch is shorter than the one that is written.
use Rattle.std.proofs.Common.{◌≡◌, ℕ, zero, suc, ◌+◌, ◌*◌, ◌/◌, ◌^◌, ◌≤◌, ℤ, pos, negsuc, List, [], ◌∷◌, length, Option, Some, None, Result, Ok, Err, refl, ap, ◌∙◌, arith, inl, inr}
use Rattle.std.proofs.lemmas.Bool.{lt-ltb, le-ltb, cases_lt}
use Rattle.std.proofs.lemmas.List.{length-append}
use Rattle.eos_wire.specs.Varint.{IsVarint, IsVarlong}
use Rattle.eos_wire.specs.Writing.{zigzag, groups_of, varint_of, varlong_of}
use Rattle.eos_wire.proofs.Spellings.{least, zigzag-unzigzag}
use Rattle.eos_wire.proofs.NumberTexts.{length-i8_text, length-i16_text, length-i32_text, length-i64_text, length-u32_text}
use Rattle.eos_batch.specs.declared.record.Header.{Header}
use Rattle.eos_batch.specs.declared.record.Record.{Record}
use Rattle.eos_batch.specs.declared.batch.Batch.{Batch}
use Rattle.eos_batch.specs.declared.fault.BatchFault.{BatchFault}
use Rattle.eos_batch.specs.declared.fault.BatchFault.TheVariants as faults
use Rattle.eos_batch.specs.Text.{IsBytesText, IsOptionalText, IsHeaderText, AreHeaderTexts, IsBodyText, IsRecordText, AreRecordTexts, IsCoveredText, IsBatchText}
use Rattle.eos_batch.specs.Answers.{IsWritten}
use Rattle.eos_batch.specs.Encoding.{bytes_text, optional_text, header_text, headers_text, body_text, record_text, records_text, covered_text, batch_text_of, tested, encoding_of, HasNoText}
use Rattle.eos_batch.proofs.EncodingSteps.{length-body_text}
use Rattle.eos_batch.proofs.EncodingTexts.{length-bytes_text, length-header_text, length-record_text, length-covered_text, length-text_with}
use Rattle.eos_batch.proofs.EncodingTests.{passes_by}

-- ---- numbers

varint_least : (text : List ℕ) (z : ℤ) → IsVarint text z → length (varint_of z) ≤ length text
unfolding varint_of
varint_least text z h =
    let same : zigzag z ≡ h.0 = ap zigzag h.4 ∙ zigzag-unzigzag h.0 in
    rw same (least 4 h.0 text h.1)

varlong_least : (text : List ℕ) (z : ℤ) → IsVarlong text z → length (varlong_of z) ≤ length text
unfolding varlong_of
varlong_least text z h =
    let same : zigzag z ≡ h.0 = ap zigzag h.4 ∙ zigzag-unzigzag h.0 in
    rw same (least 9 h.0 text h.1)

-- a smaller number takes no more groups
groups_rise : (k m n : ℕ) → m ≤ n → length (groups_of k m) ≤ length (groups_of k n)
unfolding groups_of
groups_rise zero m n le = omega arith
groups_rise (suc k) m n le =
    elim (cases_lt n 128) [
      | inl l ↦ rw (lt-ltb n 128 l, lt-ltb m 128 (omega arith)) (omega arith)
      | inr r ↦ rw (le-ltb n 128 r) (elim (cases_lt m 128) [
        | inl l ↦ rw (lt-ltb m 128 l) (omega arith)
        | inr s ↦ rw (le-ltb m 128 s) (let ih = groups_rise k (m / 128) (n / 128) (omega arith) in omega arith)
      ])
    ]

varint_rises : (m n : ℕ) → m ≤ n → length (varint_of (pos m)) ≤ length (varint_of (pos n))
unfolding varint_of
varint_rises m n le = groups_rise 4 (2 * m) (2 * n) (omega arith)

-- ---- bytes and headers

bytes_least : (text bytes : List ℕ) → IsBytesText text bytes → length (bytes_text bytes) ≤ length text
bytes_least text bytes h = rw h.2 (omega (arith, length-bytes_text bytes, varint_least h.0 (pos (length bytes)) h.1, length-append h.0 bytes))

optional_least : (text : List ℕ) (bytes : Option (List ℕ)) → IsOptionalText text bytes → length (optional_text bytes) ≤ length text
unfolding optional_text
optional_least text None h = varint_least text (negsuc 0) h
optional_least text (Some bytes) h = bytes_least text bytes h

header_least : (text : List ℕ) (h : Header) → IsHeaderText text h → length (header_text h) ≤ length text
header_least text h t = rw t.parts (omega (arith, length-header_text h, bytes_least t.key h.key t.key_text, optional_least t.value h.value t.value_text, length-append t.key t.value))

headers_least : (text : List ℕ) (hs : List Header) → AreHeaderTexts text hs → length (headers_text hs) ≤ length text
unfolding headers_text
headers_least text [] t = omega arith
headers_least text (h ∷ hs) t =
    rw (t.4, length-append (header_text h) (headers_text hs), length-append t.0 t.1) (omega (arith, header_least t.0 h t.2, headers_least t.1 hs t.3))

-- ---- records

length-body : (place : ℕ) (text : List ℕ) (r : Record) (t : IsBodyText place text r) → length text ≡ 1 + length t.timestamp + length t.delta + length t.count + length t.key + length t.value + length t.headers
length-body place text r t = ap length t.parts ∙ simp (length-append, length-i8_text) (omega arith)

body_least : (place : ℕ) (text : List ℕ) (r : Record) → IsBodyText place text r → length (body_text place r) ≤ length text
body_least place text r t =
    omega (
      arith,
      length-body place text r t,
      length-body_text place r,
      varlong_least t.timestamp r.timestamp_delta t.timestamp_text,
      varint_least t.delta (pos place) t.delta_text,
      varint_least t.count (pos (length r.headers)) t.count_text,
      optional_least t.key r.key t.key_text,
      optional_least t.value r.value t.value_text,
      headers_least t.headers r.headers t.headers_text,
    )

record_least : (place : ℕ) (text : List ℕ) (r : Record) → IsRecordText place text r → length (record_text place r) ≤ length text
record_least place text r t =
    let body = body_least place t.body r t.body_text in
    let rises = varint_rises (length (body_text place r)) (length t.body) body in
    let len = varint_least t.len (pos (length t.body)) t.len_text in
    rw t.parts (omega (arith, length-record_text place r, body, rises, len, length-append t.len t.body))

records_least : (place : ℕ) (text : List ℕ) (rs : List Record) → AreRecordTexts place text rs → length (records_text place rs) ≤ length text
unfolding records_text
records_least place text [] t = omega arith
records_least place text (r ∷ rs) t =
    rw (t.4, length-append (record_text place r) (records_text (suc place) rs), length-append t.0 t.1) (omega (arith, record_least place t.0 r t.2, records_least (suc place) t.1 rs t.3))

-- ---- the batch

covered_least : (text : List ℕ) (b : Batch) → IsCoveredText text b → length (covered_text b) ≤ length text
covered_least text b t =
    let sum : length text ≡ 40 + length t.records = ap length t.parts ∙ simp (length-append, length-i64_text, length-i32_text, length-i16_text) (omega arith) in
    omega (arith, sum, length-covered_text b, records_least 0 t.records b.records t.records_text)

pub batch_least : (text : List ℕ) (b : Batch) → IsBatchText text b → length (batch_text_of b) ≤ length text
batch_least text b t =
    let sum : length text ≡ 21 + length t.covered = ap length t.parts ∙ simp (length-append, length-i64_text, length-i32_text, length-i8_text, length-u32_text) (omega arith) in
    omega (arith, sum, length-text_with b (covered_text b), covered_least t.covered b t.covered_text)

-- a batch with a text that a segment has room for passes all tests
pub passes_with : (text : List ℕ) (b : Batch) → IsBatchText text b → length text ≤ 2 ^ 30 → tested b ≡ Ok tt
passes_with text b t le = passes_by b t.plain t.counted t.control t.producer (omega (arith, batch_least text b t))

pub has_no_text : (b : Batch) (fault : BatchFault) → tested b ≡ Err fault → HasNoText b
has_no_text b fault h = λ text t.
    elim (cases_lt (2 ^ 30) (length text)) [
      | inl l ↦ l
      | inr le ↦ let passed = passes_with text b t le in absurd cc
    ]

-- ---- the answer

pub refused : (b : Batch) (fault : BatchFault) (answer : Result (List ℕ) BatchFault) → tested b ≡ Err fault → answer ≡ Err fault → IsWritten (encoding_of b) answer
unfolding encoding_of
refused b fault answer h e = rw h e

pub written : (b : Batch) (text : List ℕ) → tested b ≡ Ok tt → text ≡ batch_text_of b → IsWritten (encoding_of b) (Ok text)
unfolding encoding_of
written b text h e = rw h (inl (rw e refl))

pub out_of_memory : (b : Batch) (answer : Result (List ℕ) BatchFault) → tested b ≡ Ok tt → answer ≡ Err faults.OutOfMemory → IsWritten (encoding_of b) answer
unfolding encoding_of
out_of_memory b answer h e = rw h (inr e)
