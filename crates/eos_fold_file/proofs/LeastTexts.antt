-- How many bytes a batch has at least.
use Rattle.std.proofs.Common.{ℕ, suc, ◌+◌, ◌*◌, ◌≤◌, List, [], ◌∷◌, ◌++◌, length, Option, Some, None, pos, ap, arith}
use Rattle.std.proofs.lemmas.List.{length-append}
use Rattle.eos_wire.specs.Crc.{crc32c_of}
use Rattle.eos_wire.specs.Numbers.{i8_text, i16_text, i32_text, i64_text, u32_text}
use Rattle.eos_wire.proofs.NumberTexts.{length-i8_text, length-i16_text, length-i32_text, length-i64_text, length-u32_text}
use Rattle.eos_wire.proofs.Spellings.{IsVarint-some, IsVarlong-some}
use Rattle.eos_batch.specs.declared.batch.Batch.{Batch}
use Rattle.eos_batch.specs.declared.record.Record.{Record}
use Rattle.eos_batch.specs.Text.{IsOptionalText, IsBodyText, IsRecordText, AreRecordTexts, last_offset_delta, IsCoveredText, IsBatchText}

optional_least : (text : List ℕ) (bytes : Option (List ℕ)) → IsOptionalText text bytes → 1 ≤ length text
optional_least text None h = IsVarint-some text _ h
optional_least text (Some bytes) h = let some = IsVarint-some h.0 _ h.1 in rw h.2 (omega (arith, some, length-append h.0 bytes))

-- attributes, timestamp delta, offset delta, the lengths of key and value, the number of headers
body_least : (place : ℕ) (text : List ℕ) (r : Record) → IsBodyText place text r → 6 ≤ length text
body_least place text r h =
    let l1 = length-append (i8_text r.attributes) (h.timestamp ++ (h.delta ++ (h.key ++ (h.value ++ (h.count ++ h.headers))))) in
    let l2 = length-append h.timestamp (h.delta ++ (h.key ++ (h.value ++ (h.count ++ h.headers)))) in
    let l3 = length-append h.delta (h.key ++ (h.value ++ (h.count ++ h.headers))) in
    let l4 = length-append h.key (h.value ++ (h.count ++ h.headers)) in
    let l5 = length-append h.value (h.count ++ h.headers) in
    let l6 = length-append h.count h.headers in
    let a = length-i8_text r.attributes in
    let t = IsVarlong-some h.timestamp _ h.timestamp_text in
    let d = IsVarint-some h.delta _ h.delta_text in
    let k = optional_least h.key r.key h.key_text in
    let v = optional_least h.value r.value h.value_text in
    let c = IsVarint-some h.count _ h.count_text in
    rw h.parts (omega (arith, l1, l2, l3, l4, l5, l6, a, t, d, k, v, c))

record_least : (place : ℕ) (text : List ℕ) (r : Record) → IsRecordText place text r → 7 ≤ length text
record_least place text r h =
    let some = IsVarint-some h.len _ h.len_text in
    let body = body_least place h.body r h.body_text in
    rw h.parts (omega (arith, some, body, length-append h.len h.body))

records_least : (place : ℕ) (text : List ℕ) (rs : List Record) → AreRecordTexts place text rs → 7 * length rs ≤ length text
records_least place text [] h = omega arith
records_least place text (r ∷ rs) h =
    let first = record_least place h.0 r h.2 in
    let others = records_least (suc place) h.1 rs h.3 in
    rw h.4 (omega (arith, first, others, length-append h.0 h.1))

covered_least : (text : List ℕ) (b : Batch) → IsCoveredText text b → 40 + 7 * length b.records ≤ length text
covered_least text b h =
    let behind7 = i32_text (pos (length b.records)) ++ h.records in
    let behind6 = i32_text b.sequence ++ behind7 in
    let behind5 = i16_text b.epoch ++ behind6 in
    let behind4 = i64_text b.producer ++ behind5 in
    let behind3 = i64_text b.max_timestamp ++ behind4 in
    let behind2 = i64_text b.base_timestamp ++ behind3 in
    let behind1 = i32_text (pos (last_offset_delta b)) ++ behind2 in
    let l0 = length-append (i16_text b.attributes) behind1 in
    let l1 = length-append (i32_text (pos (last_offset_delta b))) behind2 in
    let l2 = length-append (i64_text b.base_timestamp) behind3 in
    let l3 = length-append (i64_text b.max_timestamp) behind4 in
    let l4 = length-append (i64_text b.producer) behind5 in
    let l5 = length-append (i16_text b.epoch) behind6 in
    let l6 = length-append (i32_text b.sequence) behind7 in
    let l7 = length-append (i32_text (pos (length b.records))) h.records in
    let n0 = length-i16_text b.attributes in
    let n1 = length-i32_text (pos (last_offset_delta b)) in
    let n2 = length-i64_text b.base_timestamp in
    let n3 = length-i64_text b.max_timestamp in
    let n4 = length-i64_text b.producer in
    let n5 = length-i16_text b.epoch in
    let n6 = length-i32_text b.sequence in
    let n7 = length-i32_text (pos (length b.records)) in
    let records = records_least 0 h.records b.records h.records_text in
    let parts = ap length h.parts in
    omega (arith, parts, l0, l1, l2, l3, l4, l5, l6, l7, n0, n1, n2, n3, n4, n5, n6, n7, records)

pub batch_least : (text : List ℕ) (b : Batch) → IsBatchText text b → 61 + 7 * length b.records ≤ length text
batch_least text b h =
    let crc = u32_text (crc32c_of h.covered) in
    let behind3 = i8_text (pos 2) ++ (crc ++ h.covered) in
    let behind2 = i32_text b.leader_epoch ++ behind3 in
    let behind1 = i32_text (pos (9 + length h.covered)) ++ behind2 in
    let l0 = length-append (i64_text b.base_offset) behind1 in
    let l1 = length-append (i32_text (pos (9 + length h.covered))) behind2 in
    let l2 = length-append (i32_text b.leader_epoch) behind3 in
    let l3 = length-append (i8_text (pos 2)) (crc ++ h.covered) in
    let l4 = length-append crc h.covered in
    let n0 = length-i64_text b.base_offset in
    let n1 = length-i32_text (pos (9 + length h.covered)) in
    let n2 = length-i32_text b.leader_epoch in
    let n3 = length-i8_text (pos 2) in
    let n4 = length-u32_text (crc32c_of h.covered) in
    let covered = covered_least h.covered b h.covered_text in
    let parts = ap length h.parts in
    omega (arith, parts, l0, l1, l2, l3, l4, n0, n1, n2, n3, n4, covered)
