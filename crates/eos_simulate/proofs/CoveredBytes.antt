-- A batch of records of bytes is written as bytes, so its checksum fits and what is written is its text.
use Rattle.std.proofs.Common.{◌≡◌, ℕ, suc, pos, negsuc, List, [], ◌∷◌, length, Option, Some, None, Ok, sym, subst, FitsSigned, w32, w64}
use Rattle.std.specs.Prelude.{⊤}
use Rattle.std.specs.List.{All}
use Rattle.std.proofs.lemmas.List.Elements.{All-head, All-tail}
use Rattle.eos_wire.specs.Numbers.{IsBytes, i8_text, i16_text, i32_text, i64_text}
use Rattle.eos_wire.proofs.NumberTexts.{IsBytes-append}
use Rattle.eos_wire.proofs.Spellings.{IsVarint-bytes, IsVarlong-bytes}
use Rattle.eos_batch.specs.declared.record.Header.{Header}
use Rattle.eos_batch.specs.declared.record.Record.{Record}
use Rattle.eos_batch.specs.declared.batch.Batch.{Batch}
use Rattle.eos_batch.specs.Encoding.{covered_text, batch_text_of, tested}
use Rattle.eos_batch.specs.Text.{IsBytesText, IsOptionalText, AreHeaderTexts, IsBodyText, AreRecordTexts, last_offset_delta, IsCoveredText, IsBatchText}
use Rattle.eos_batch.specs.steps.Writing.{HasCoveredWidths}
use Rattle.eos_batch.proofs.EncodingTests.{passes-counted, passes-fits, batch_is}
use Rattle.eos_batch.proofs.EncodingTexts.{covered_is}
use Rattle.eos_machine.proofs.ByteTexts.{no_bytes, i8_bytes, i16_bytes, i32_bytes, i64_bytes, checksum_small}

-- ---- a record of bytes

abbrev pub AreOptional : Option (List ℕ) → Type 0
AreOptional None = ⊤
AreOptional (Some bytes) = IsBytes bytes

abbrev pub AreHeaders : List Header → Type 0
AreHeaders [] = ⊤
AreHeaders (h ∷ hs) = IsBytes h.key × AreOptional h.value × AreHeaders hs

pub record IsOfBytes (r : Record) : Type 0 where
  pub key : AreOptional r.key
  pub value : AreOptional r.value
  pub headers : AreHeaders r.headers

sized_bytes : (text bytes : List ℕ) → IsBytes bytes → IsBytesText text bytes → IsBytes text
sized_bytes text bytes h t = subst IsBytes (sym t.2) (IsBytes-append t.0 bytes (IsVarint-bytes t.0 (pos (length bytes)) t.1) h)

optional_bytes : (text : List ℕ) (o : Option (List ℕ)) → AreOptional o → IsOptionalText text o → IsBytes text
optional_bytes text None h t = IsVarint-bytes text (negsuc 0) t
optional_bytes text (Some bytes) h t = sized_bytes text bytes h t

headers_bytes : (text : List ℕ) (hs : List Header) → AreHeaders hs → AreHeaderTexts text hs → IsBytes text
headers_bytes text [] h t = subst IsBytes (sym t) no_bytes
headers_bytes text (x ∷ xs) h t =
    let first = t.2 in
    let one : IsBytes t.0 = subst IsBytes (sym first.parts) (IsBytes-append first.key first.value (sized_bytes first.key x.key h.0 first.key_text) (optional_bytes first.value x.value h.1 first.value_text)) in
    subst IsBytes (sym t.4) (IsBytes-append t.0 t.1 one (headers_bytes t.1 xs h.2 t.3))

body_bytes : (place : ℕ) (text : List ℕ) (r : Record) → IsOfBytes r → IsBodyText place text r → IsBytes text
body_bytes place text r h t =
    subst IsBytes (sym t.parts) (IsBytes-append (i8_text r.attributes) _ (i8_bytes r.attributes) (IsBytes-append t.timestamp _ (IsVarlong-bytes t.timestamp r.timestamp_delta t.timestamp_text)
    (IsBytes-append t.delta _ (IsVarint-bytes t.delta (pos place) t.delta_text) (IsBytes-append t.key _ (optional_bytes t.key r.key h.key t.key_text) (IsBytes-append t.value _ (optional_bytes t.value r.value h.value t.value_text)
    (IsBytes-append t.count t.headers (IsVarint-bytes t.count (pos (length r.headers)) t.count_text) (headers_bytes t.headers r.headers h.headers t.headers_text)))))))

records_bytes : (place : ℕ) (text : List ℕ) (rs : List Record) → All IsOfBytes rs → AreRecordTexts place text rs → IsBytes text
records_bytes place text [] h t = subst IsBytes (sym t) no_bytes
records_bytes place text (r ∷ rs) h t =
    let first = t.2 in
    let one : IsBytes t.0 = subst IsBytes (sym first.parts) (IsBytes-append first.len first.body (IsVarint-bytes first.len (pos (length first.body)) first.len_text) (body_bytes place first.body r (All-head IsOfBytes r rs h) first.body_text)) in
    subst IsBytes (sym t.4) (IsBytes-append t.0 t.1 one (records_bytes (suc place) t.1 rs (All-tail IsOfBytes r rs h) t.3))

covered_bytes : (text : List ℕ) (b : Batch) → All IsOfBytes b.records → IsCoveredText text b → IsBytes text
covered_bytes text b h t =
    subst IsBytes (sym t.parts) (IsBytes-append (i16_text b.attributes) _ (i16_bytes b.attributes) (IsBytes-append (i32_text (pos (last_offset_delta b))) _ (i32_bytes (pos (last_offset_delta b)))
    (IsBytes-append (i64_text b.base_timestamp) _ (i64_bytes b.base_timestamp) (IsBytes-append (i64_text b.max_timestamp) _ (i64_bytes b.max_timestamp) (IsBytes-append (i64_text b.producer) _ (i64_bytes b.producer)
    (IsBytes-append (i16_text b.epoch) _ (i16_bytes b.epoch) (IsBytes-append (i32_text b.sequence) _ (i32_bytes b.sequence)
    (IsBytes-append (i32_text (pos (length b.records))) t.records (i32_bytes (pos (length b.records))) (records_bytes 0 t.records b.records h t.records_text)))))))))

-- ---- a batch

pub written_text : (b : Batch) → tested b ≡ Ok tt → HasCoveredWidths b → FitsSigned w64 b.base_offset → FitsSigned w32 b.leader_epoch → All IsOfBytes b.records → IsBatchText (batch_text_of b) b
written_text b t widths o l h =
    let counted = passes-counted b t in
    let covered = covered_is b counted.fits widths.records (passes-fits b t) in
    batch_is b t widths o l (checksum_small (covered_text b) (covered_bytes (covered_text b) b h covered))
