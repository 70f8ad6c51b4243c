-- How long the batches of a cluster's items are: at most 2^20 bytes a record, of which a segment has at most a thousand.
use Rattle.std.proofs.Common.{◌≡◌, ℕ, zero, suc, ◌+◌, ◌-◌, ◌*◌, ◌/◌, ◌%◌, ◌^◌, ◌≤◌, ◌==◌, ◌&&◌, Bool, true, false, cond, ℤ, pos, negsuc, ◌-ℤ◌, List, [], ◌∷◌, ◌++◌, length, take, map, flat_map, Option, Some, None, Ok, refl, ap, subst, ◌∙◌, arith}
use Rattle.std.specs.Prelude.{nat_lt, nat_le, if◌then◌else◌, codes}
use Rattle.std.specs.List.{All, list_all}
use Rattle.std.proofs.lemmas.List.{length-append, length-take}
use Rattle.std.proofs.lemmas.List.Elements.{All-nil, All-cons, All-head, All-tail, All-take}
use Rattle.std.proofs.lemmas.Bool.{lt-ltb}
use Rattle.eos_wire.specs.Numbers.{i8_text, i16_text, i32_text, i64_text}
use Rattle.eos_wire.specs.Writing.{groups_of, varint_of, varlong_of, uvarint_of}
use Rattle.eos_wire.proofs.NumberTexts.{length-i8_text, length-i16_text, length-i32_text, length-i64_text}
use Rattle.eos_batch.specs.declared.record.Header.{Header}
use Rattle.eos_batch.specs.declared.record.Record.{Record}
use Rattle.eos_batch.specs.Encoding.{optional_text, header_text, headers_text, body_text, record_text, records_text, batch_text_of}
use Rattle.eos_batch.proofs.EncodingSteps.{length-body_text}
use Rattle.eos_batch.proofs.EncodingTexts.{length-bytes_text, length-header_text, length-record_text}
use Rattle.eos_batch.proofs.EncodingTests.{length-batch_text_of}
use Rattle.eos_txnlog.specs.declared.partitions.TopicPartitions.{TopicPartitions}
use Rattle.eos_txnlog.specs.declared.value.TxnValue.{TxnValue}
use Rattle.eos_txnlog.specs.Status.{status_number}
use Rattle.eos_txnlog.specs.Writing.{write_value, write_key}
use Rattle.eos_offsets.specs.declared.key.OffsetKey.{OffsetKey}
use Rattle.eos_offsets.specs.Writing as offsets
use Rattle.eos_machine.specs.declared.config.Config.{Config}
use Rattle.eos_machine.specs.LogIndexes.{IsConfig, log_count, input_index, output_index, offsets_topic, transactions_topic, final_topic, input_topic, output_topic, topic_of, number_of, is_topic}
use Rattle.eos_machine.specs.declared.item.Claim.{Claim}
use Rattle.eos_machine.specs.declared.item.Entry.{Entry}
use Rattle.eos_machine.specs.declared.item.Item.{Item}
use Rattle.eos_machine.specs.declared.item.Item.TheVariants.{Fed, State, Output, Offset, Marker}
use Rattle.eos_machine.specs.Rest.{by_topic, with_number, value_of}
use Rattle.eos_machine.specs.Sessions.{claimed_topic}
use Rattle.eos_machine.specs.Batches.{group, transactional_id, bytes_of, fed_record, state_record, header, claim_headers, headers_of, output_record, commit_value, offset_record, control_type, marker_record, event_of, delayed, record_after, batch_of, behind, batches_after, texts_of, second_group, source_key, commit_of}
use Rattle.eos_machine.proofs.Grouping.{joining_within}
use Rattle.eos_machine.proofs.Written.{few_finals}
use Rattle.eos_machine.specs.Fitting.{IsFit, AreAllThere}

-- ---- numbers and texts

groups_short : (k n : ℕ) → length (groups_of k n) ≤ k + 1
unfolding groups_of
groups_short zero n = omega arith
groups_short (suc k) n = elim (nat_lt n 128) as (λ t. length (cond t (n ∷ []) ((n % 128 + 128) ∷ groups_of k (n / 128))) ≤ suc k + 1) [
  | true ↦ omega arith
  | false ↦ let r = groups_short k (n / 128) in omega (arith, r)
]

varint_short : (z : ℤ) → length (varint_of z) ≤ 5
unfolding varint_of
varint_short z = groups_short 4 _

varlong_short : (z : ℤ) → length (varlong_of z) ≤ 10
unfolding varlong_of
varlong_short z = groups_short 9 _

uvarint_short : (n : ℕ) → length (uvarint_of n) ≤ 5
unfolding uvarint_of
uvarint_short n = groups_short 4 n

optional_short : (bytes : List ℕ) → length (optional_text (Some bytes)) ≤ 5 + length bytes
unfolding optional_text
optional_short bytes = let e = length-bytes_text bytes in let v = varint_short (pos (length bytes)) in omega (arith, e, v)

null_short : length (optional_text None) ≤ 5
unfolding optional_text
null_short = varint_short (negsuc 0)

header_short : (key value : List ℕ) → length (header_text (header key value)) ≤ 10 + length key + length value
header_short key value =
    let e = length-header_text (header key value) in let k = length-bytes_text key in let v = varint_short (pos (length key)) in let o = optional_short value in
    omega (arith, e, k, v, o)

headers_next : (h : Header) (hs : List Header) → length (headers_text (h ∷ hs)) ≡ length (header_text h) + length (headers_text hs)
unfolding headers_text
headers_next h hs = length-append (header_text h) (headers_text hs)

no_headers : length (headers_text []) ≡ 0
unfolding headers_text
no_headers = refl

-- ---- a record

record_short : (place : ℕ) (delta : ℤ) (r : Record) (k v h : ℕ) → length (optional_text r.key) ≤ k → length (optional_text r.value) ≤ v → length (headers_text r.headers) ≤ h → length (record_text place (delayed r delta)) ≤ 30 + k + v + h
record_short place delta r k v h kl vl hl =
    let t = length-record_text place (delayed r delta) in
    let y = length-body_text place (delayed r delta) in
    let a = varint_short (pos (length (body_text place (delayed r delta)))) in
    let d = varlong_short delta in
    let p = varint_short (pos place) in
    let n = varint_short (pos (length r.headers)) in
    omega (arith, t, y, a, d, p, n, kl, vl, hl)

-- ---- the partitions of a transaction, by topic

topic_short : (c : Config) (p : ℕ) → length (topic_of c p) ≤ 19
topic_short c p = by (p == 0) (nat_le p c.transaction_logs) (nat_lt p (input_index c 0)) (nat_lt p (output_index c 0))
  where
    by : (x y f z : Bool) → length (if x then offsets_topic else if y then transactions_topic else if f then final_topic else if z then input_topic else output_topic) ≤ 19
    by true y f z = omega arith
    by false true f z = omega arith
    by false false true z = omega arith
    by false false false true = omega arith
    by false false false false = omega arith

-- a topic of at most so many numbers
abbrev pub IsTopicOf : ℕ → TopicPartitions → Type 0
IsTopicOf n t = (length t.topic ≤ 19) × (length t.numbers ≤ n)

topic_more : (n : ℕ) (t : TopicPartitions) → IsTopicOf n t → IsTopicOf (n + 1) t
topic_more n t h = (h.0, omega (arith, h.1))

topics_more : (n : ℕ) (ts : List TopicPartitions) → All (IsTopicOf n) ts → All (IsTopicOf (n + 1)) ts
topics_more n [] h = All-nil (IsTopicOf (n + 1))
topics_more n (t ∷ ts) h = All-cons (IsTopicOf (n + 1)) t ts (topic_more n t (All-head (IsTopicOf n) t ts h)) (topics_more n ts (All-tail (IsTopicOf n) t ts h))

-- at most so many topics, each of at most so many numbers
abbrev pub AreTopicsOf : ℕ → List TopicPartitions → Type 0
AreTopicsOf n ts = (length ts ≤ n) × All (IsTopicOf n) ts

topics_with : (topic : List ℕ) (k n : ℕ) (ts : List TopicPartitions) → length topic ≤ 19 → AreTopicsOf n ts → AreTopicsOf (n + 1) (with_number topic k ts)
topics_with topic k n [] l h = (omega arith, All-cons (IsTopicOf (n + 1)) (record { topic = topic; numbers = pos k ∷ [] }) [] (l, omega arith) (All-nil (IsTopicOf (n + 1))))
topics_with topic k n (t ∷ ts) l h =
    let a = All-head (IsTopicOf n) t ts h.1 in
    let m = topics_more n ts (All-tail (IsTopicOf n) t ts h.1) in
    elim (is_topic topic t.topic) as (λ b. AreTopicsOf (n + 1) (if b then record { topic = t.topic; numbers = pos k ∷ t.numbers } ∷ ts else record { topic = topic; numbers = pos k ∷ [] } ∷ (t ∷ ts))) [
      | true ↦ (omega (arith, h.0), All-cons (IsTopicOf (n + 1)) (record { topic = t.topic; numbers = pos k ∷ t.numbers }) ts (a.0, omega (arith, a.1)) m)
      | false ↦ (omega (arith, h.0), All-cons (IsTopicOf (n + 1)) (record { topic = topic; numbers = pos k ∷ [] }) (t ∷ ts) (l, omega arith) (All-cons (IsTopicOf (n + 1)) t ts (topic_more n t a) m))
    ]

pub topics_few : (c : Config) (ps : List ℕ) → AreTopicsOf (length ps) (by_topic c ps)
topics_few c [] = (omega arith, All-nil (IsTopicOf 0))
topics_few c (p ∷ ps) = subst (λ n. AreTopicsOf n (by_topic c (p ∷ ps))) (plus_one (length ps)) (topics_with (topic_of c p) (number_of c p) (length ps) (by_topic c ps) (topic_short c p) (topics_few c ps))
  where
    plus_one : (n : ℕ) → n + 1 ≡ suc n
    plus_one n = omega arith

-- ---- the value of a transaction record

abbrev fits_topic : TopicPartitions → Bool
fits_topic t = nat_lt (length t.topic + 1) (2 ^ 32) && nat_lt (length t.numbers + 1) (2 ^ 32)

abbrev fits : List TopicPartitions → Bool
fits ts = nat_lt (length ts + 1) (2 ^ 32) && list_all fits_topic ts

abbrev topic_bytes : TopicPartitions → List ℕ
topic_bytes t = (uvarint_of (length t.topic + 1) ++ t.topic) ++ ((uvarint_of (length t.numbers + 1) ++ flat_map i32_text t.numbers) ++ uvarint_of 0)

abbrev value_bytes : TxnValue → List ℕ
value_bytes v =
    i16_text (pos 1) ++ ((i64_text v.producer ++ (i16_text v.epoch ++ (i32_text v.timeout ++ i8_text (status_number v.status))))
    ++ ((uvarint_of (length v.partitions + 1) ++ flat_map topic_bytes v.partitions) ++ (i64_text v.last_update ++ (i64_text v.start ++ uvarint_of 0))))

value_is : (v : TxnValue) → fits v.partitions ≡ true → write_value (pos 1) v ≡ Ok (value_bytes v)
unfolding write_value
value_is v h = rw h refl

topics_fit : (n : ℕ) (ts : List TopicPartitions) → n ≤ 100 → All (IsTopicOf n) ts → list_all fits_topic ts ≡ true
topics_fit n [] l h = refl
topics_fit n (t ∷ ts) l h =
    let a = All-head (IsTopicOf n) t ts h in
    rw (lt-ltb (length t.topic + 1) (2 ^ 32) (omega (arith, a.0)), lt-ltb (length t.numbers + 1) (2 ^ 32) (omega (arith, a.1, l))) (topics_fit n ts l (All-tail (IsTopicOf n) t ts h))

they_fit : (n : ℕ) (ts : List TopicPartitions) → n ≤ 100 → AreTopicsOf n ts → fits ts ≡ true
they_fit n ts l h = rw (lt-ltb (length ts + 1) (2 ^ 32) (omega (arith, h.0, l))) (topics_fit n ts l h.1)

place_few : (c : Config) → IsConfig c → log_count c ≤ 53
place_few c i = let f = few_finals c i in omega (arith, f, i.inputs.1, i.outputs.1, i.transaction_logs.1)

pub value_written : (c : Config) (a : ℕ) (x : Entry) (n : ℕ) → IsConfig c → AreAllThere c x.partitions → write_value (pos 1) (value_of c a x n) ≡ Ok (value_bytes (value_of c a x n))
value_written c a x n i h =
    let f = place_few c i in
    value_is (value_of c a x n) (they_fit (length x.partitions) (by_topic c x.partitions) (omega (arith, f, h.1)) (topics_few c x.partitions))

numbers_length : (zs : List ℤ) → length (flat_map i32_text zs) ≡ 4 * length zs
numbers_length [] = omega arith
numbers_length (z ∷ zs) = let r = numbers_length zs in let l = length-i32_text z in length-append (i32_text z) (flat_map i32_text zs) ∙ omega (arith, r, l)

topic_length : (n : ℕ) (t : TopicPartitions) → n ≤ 53 → IsTopicOf n t → length (topic_bytes t) ≤ 300
topic_length n t l h =
    let e : length (topic_bytes t) ≡ length (uvarint_of (length t.topic + 1)) + length t.topic + length (uvarint_of (length t.numbers + 1)) + length (flat_map i32_text t.numbers) + length (uvarint_of 0) = simp length-append (omega arith) in
    let a = uvarint_short (length t.topic + 1) in let b = uvarint_short (length t.numbers + 1) in let d = uvarint_short 0 in let m = numbers_length t.numbers in
    omega (arith, e, a, b, d, m, h.0, h.1, l)

topics_length : (n : ℕ) (ts : List TopicPartitions) → n ≤ 53 → All (IsTopicOf n) ts → length (flat_map topic_bytes ts) ≤ 300 * length ts
topics_length n [] l h = omega arith
topics_length n (t ∷ ts) l h =
    let e = length-append (topic_bytes t) (flat_map topic_bytes ts) in
    let a = topic_length n t l (All-head (IsTopicOf n) t ts h) in
    let r = topics_length n ts l (All-tail (IsTopicOf n) t ts h) in
    omega (arith, e, a, r)

value_length : (c : Config) (a : ℕ) (x : Entry) (n : ℕ) → IsConfig c → AreAllThere c x.partitions → length (bytes_of (write_value (pos 1) (value_of c a x n))) ≤ 16000
value_length c a x n i h =
    let v : TxnValue = value_of c a x n in
    let f = place_few c i in
    let t = topics_few c x.partitions in
    let m = topics_length (length x.partitions) (by_topic c x.partitions) (omega (arith, f, h.1)) t.1 in
    let u = uvarint_short (length v.partitions + 1) in let z = uvarint_short 0 in
    let e : length (value_bytes v) ≡ 2 + 8 + 2 + 4 + 1 + length (uvarint_of (length v.partitions + 1)) + length (flat_map topic_bytes v.partitions) + 8 + 8 + length (uvarint_of 0) =
    simp (length-append, length-i8_text, length-i16_text, length-i32_text, length-i64_text) (omega arith) in
    let q : length (bytes_of (write_value (pos 1) v)) ≡ length (value_bytes v) = ap (λ r. length (bytes_of r)) (value_written c a x n i h) in
    omega (arith, q, e, u, z, m, t.0, h.1, f)

-- ---- the other keys and values

pub key_written : (a : ℕ) → write_key (transactional_id a) ≡ Ok (i16_text (pos 0) ++ (i16_text (pos 5) ++ transactional_id a))
unfolding write_key
key_written a = refl

key_length : (a : ℕ) → length (bytes_of (write_key (transactional_id a))) ≤ 20
key_length a =
    let q : length (bytes_of (write_key (transactional_id a))) ≡ length (i16_text (pos 0) ++ (i16_text (pos 5) ++ transactional_id a)) = ap (λ r. length (bytes_of r)) (key_written a) in
    let e : length (i16_text (pos 0) ++ (i16_text (pos 5) ++ transactional_id a)) ≡ 9 = simp (length-append, length-i16_text) refl in
    omega (arith, q, e)

offset_key_length : (c : Config) (q : ℕ) → length (bytes_of (offsets.write_key (source_key c q))) ≤ 20
unfolding offsets.key_bytes
offset_key_length c q = by (nat_lt q c.inputs)
  where
    by : (t : Bool) → length (bytes_of (offsets.write_key (if t then record { group = group; topic = input_topic; partition = pos q } else record { group = second_group; topic = output_topic; partition = pos (q - c.inputs) }))) ≤ 20
    by true =
        let e : length (bytes_of (offsets.write_key (record { group = group; topic = input_topic; partition = pos q }))) ≡ 13 = simp (length-append, length-i16_text, length-i32_text) refl in
        omega (arith, e)
    by false =
        let e : length (bytes_of (offsets.write_key (record { group = second_group; topic = output_topic; partition = pos (q - c.inputs) }))) ≡ 14 = simp (length-append, length-i16_text, length-i32_text) refl in
        omega (arith, e)

offset_value_length : (k : OffsetKey) (v : ℕ) → length (bytes_of (offsets.write_value (commit_of k (pos v)) (pos 3))) ≤ 40
unfolding offsets.value_bytes
offset_value_length k v =
    let e : length (bytes_of (offsets.write_value (commit_of k (pos v)) (pos 3))) ≡ 24 = simp (length-append, length-i16_text, length-i32_text, length-i64_text) refl in
    omega (arith, e)

claim_length : (x : Claim) → length x.topic ≤ 249 → length (headers_text (claim_headers x)) ≤ 500
claim_length x l =
    let h1 = header_short (codes "eo.topic") x.topic in
    let h2 = header_short (codes "eo.partition") (i32_text x.partition) in
    let h3 = header_short (codes "eo.offset") (i64_text x.offset) in
    let h4 = header_short (codes "eo.output") (i32_text x.output) in
    let h5 = header_short (codes "eo.of") (i32_text x.of) in
    let n2 = length-i32_text x.partition in let n3 = length-i64_text x.offset in let n4 = length-i32_text x.output in let n5 = length-i32_text x.of in
    let e1 = headers_next (header (codes "eo.topic") x.topic) _ in
    let e2 = headers_next (header (codes "eo.partition") (i32_text x.partition)) _ in
    let e3 = headers_next (header (codes "eo.offset") (i64_text x.offset)) _ in
    let e4 = headers_next (header (codes "eo.output") (i32_text x.output)) _ in
    let e5 = headers_next (header (codes "eo.of") (i32_text x.of)) [] in
    let z = no_headers in
    let s : length (headers_text (claim_headers x)) ≡ length (header_text (header (codes "eo.topic") x.topic)) + (length (header_text (header (codes "eo.partition") (i32_text x.partition)))
    + (length (header_text (header (codes "eo.offset") (i64_text x.offset))) + (length (header_text (header (codes "eo.output") (i32_text x.output))) + (length (header_text (header (codes "eo.of") (i32_text x.of))) + 0)))) =
    e1 ∙ ap (λ n. length (header_text (header (codes "eo.topic") x.topic)) + n) (e2 ∙ ap (λ n. length (header_text (header (codes "eo.partition") (i32_text x.partition))) + n)
    (e3 ∙ ap (λ n. length (header_text (header (codes "eo.offset") (i64_text x.offset))) + n) (e4 ∙ ap (λ n. length (header_text (header (codes "eo.output") (i32_text x.output))) + n)
    (e5 ∙ ap (λ n. length (header_text (header (codes "eo.of") (i32_text x.of))) + n) z)))) in
    omega (arith, s, h1, h2, h3, h4, h5, n2, n3, n4, n5, l)

headers_length : (x : Option Claim) → length (claimed_topic x) ≤ 249 → length (headers_text (headers_of x)) ≤ 500
headers_length None l = let z = no_headers in omega (arith, z)
headers_length (Some x) l = claim_length x l

commit_value_length : (k : OffsetKey) (v : Option ℕ) → length (optional_text (commit_value k v)) ≤ 50
commit_value_length k None = let z = null_short in omega (arith, z)
commit_value_length k (Some v) =
    let w = optional_short (bytes_of (offsets.write_value (commit_of k (pos v)) (pos 3))) in let l = offset_value_length k v in omega (arith, w, l)

-- ---- an item, and several

i64_value : (z : ℤ) → length (optional_text (Some (i64_text z))) ≤ 13
i64_value z = let o = optional_short (i64_text z) in let l = length-i64_text z in omega (arith, o, l)

item_short : (c : Config) (place n : ℕ) (x : Item) → IsConfig c → IsFit c x → length (record_text place (record_after c n x)) ≤ 2 ^ 20 - 100
item_short c place n (Fed m) i h =
    let b = record_short place (pos m -ℤ pos n) (fed_record m) 5 13 0 null_short (i64_value (pos m)) (let z = no_headers in omega (arith, z)) in omega (arith, b)
item_short c place n (State a x m) i h =
    let k = optional_short (bytes_of (write_key (transactional_id a))) in let kl = key_length a in
    let v = optional_short (bytes_of (write_value (pos 1) (value_of c a x m))) in let vl = value_length c a x m i h.2 in
    let b = record_short place (pos m -ℤ pos n) (state_record c a x m) 30 16010 0 (omega (arith, k, kl)) (omega (arith, v, vl)) (let z = no_headers in omega (arith, z)) in omega (arith, b)
item_short c place n (Output a e s x v m) i h =
    let b = record_short place (pos m -ℤ pos n) (output_record x v) 5 13 500 null_short (i64_value (pos v)) (headers_length x h.3) in omega (arith, b)
item_short c place n (Offset a e q v m) i h =
    let k = optional_short (bytes_of (offsets.write_key (source_key c q))) in let kl = offset_key_length c q in
    let b = record_short place (pos m -ℤ pos n) (offset_record c q v) 30 50 0 (omega (arith, k, kl)) (commit_value_length (source_key c q) v) (let z = no_headers in omega (arith, z)) in omega (arith, b)
item_short c place n (Marker a e k m) i h =
    let t = optional_short (i16_text (pos 0) ++ i16_text (control_type k)) in
    let tl : length (i16_text (pos 0) ++ i16_text (control_type k)) ≡ 4 = simp (length-append, length-i16_text) refl in
    let v = optional_short (i16_text (pos 0) ++ i32_text (pos 0)) in
    let vl : length (i16_text (pos 0) ++ i32_text (pos 0)) ≡ 6 = simp (length-append, length-i16_text, length-i32_text) refl in
    let b = record_short place (pos m -ℤ pos n) (marker_record k) 30 50 0 (omega (arith, t, tl)) (omega (arith, v, vl)) (let z = no_headers in omega (arith, z)) in omega (arith, b)

records_short : (c : Config) (place n : ℕ) (xs : List Item) → IsConfig c → All (IsFit c) xs → length (records_text place (map (record_after c n) xs)) ≤ (2 ^ 20 - 100) * length xs
unfolding records_text
records_short c place n [] i h = omega arith
records_short c place n (x ∷ xs) i h =
    let e = length-append (record_text place (record_after c n x)) (records_text (suc place) (map (record_after c n) xs)) in
    let a = item_short c place n x i (All-head (IsFit c) x xs h) in
    let r = records_short c (suc place) n xs i (All-tail (IsFit c) x xs h) in
    omega (arith, e, a, r)

-- ---- a batch, and several

pub batch_short : (c : Config) (o : ℕ) (x : Item) (ys : List Item) → IsConfig c → All (IsFit c) (x ∷ ys) → length (batch_text_of (batch_of c o x ys)) ≤ 2 ^ 20 * (1 + length ys)
batch_short c o x ys i h =
    let e = length-batch_text_of (batch_of c o x ys) in
    let r = records_short c 0 (event_of x) (x ∷ ys) i h in
    omega (arith, e, r)

pub texts_short : (c : Config) (n o : ℕ) (xs : List Item) → n ≤ length xs → IsConfig c → All (IsFit c) xs → length (texts_of (batches_after c n o xs)) + 2 ^ 20 * n ≤ 2 ^ 20 * length xs
texts_short c n o [] l i h = omega (arith, l)
texts_short c zero o (x ∷ xs) l i h =
    let m : ℕ = behind c x xs in
    let w = joining_within (c.batch_records - 1) x xs in
    let e = length-append (batch_text_of (batch_of c o x (take m xs))) (texts_of (batches_after c m (o + 1) xs)) in
    let t = length-take m xs in
    let f = All-tail (IsFit c) x xs h in
    let a = batch_short c o x (take m xs) i (All-cons (IsFit c) x (take m xs) (All-head (IsFit c) x xs h) (All-take (IsFit c) m xs f)) in
    let r = texts_short c m (o + 1) xs w i f in
    omega (arith, w, e, t, a, r)
texts_short c (suc n) o (x ∷ xs) l i h = let r = texts_short c n (o + 1) xs (omega (arith, l)) i (All-tail (IsFit c) x xs h) in omega (arith, r)
