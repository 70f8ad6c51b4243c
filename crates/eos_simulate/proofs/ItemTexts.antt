-- Each batch of a log that fits is written as a text of it.
use Rattle.std.proofs.Common.{◌≡◌, ℕ, zero, suc, ◌+◌, ◌-◌, ◌*◌, ◌/◌, ◌^◌, ◌<◌, ◌≤◌, ℤ, pos, negsuc, ◌-ℤ◌, unsigned_abs, List, [], ◌∷◌, ◌++◌, map, length, take, drop, Option, Some, None, refl, sym, ap, subst, ◌∙◌, arith, codes, FitsSigned, w8, w16, w32, w64, Bool, true, false}
use Rattle.std.specs.Prelude.{⊤, nat_lt, if◌then◌else◌}
use Rattle.std.specs.List.{All}
use Rattle.std.proofs.lemmas.List.Elements.{All-nil, All-cons, All-head, All-tail, All-take}
use Rattle.std.proofs.lemmas.List.{length-take, length-drop}
use Rattle.std.proofs.lemmas.Int.{ints, fits_signed_from_abs}
use Rattle.std.proofs.Math.Nat.{div-add-mod, mul_comm, mul-le-mul_right, add-mul}
use Rattle.eos_wire.specs.Numbers.{IsBytes, i16_text, i32_text, i64_text}
use Rattle.eos_wire.proofs.NumberTexts.{IsBytes-append}
use Rattle.eos_batch.specs.declared.marker.Kind.{Kind}
use Rattle.eos_batch.specs.Encoding.{batch_text_of}
use Rattle.eos_batch.specs.Text.{IsBatchText}
use Rattle.eos_batch.specs.steps.Writing.{HasRecordWidths}
use Rattle.eos_txnlog.specs.Writing.{write_key}
use Rattle.eos_wire.specs.declared.form.Form.TheVariants.{Plain}
use Rattle.eos_wire.specs.FieldWriting.{string_text}
use Rattle.eos_offsets.specs.declared.key.OffsetKey.{OffsetKey}
use Rattle.eos_offsets.specs.Writing as offsets
use Rattle.eos_machine.specs.declared.config.Config.{Config}
use Rattle.eos_machine.specs.declared.item.Claim.{Claim}
use Rattle.eos_machine.specs.Sessions.{claimed_topic}
use Rattle.eos_machine.specs.declared.item.Item.{Item}
use Rattle.eos_machine.specs.declared.item.Item.TheVariants.{Fed, State, Output, Offset, Marker}
use Rattle.eos_machine.specs.LogIndexes.{IsConfig, application_count, input_topic, output_topic}
use Rattle.eos_machine.proofs.Written.{few_applications}
use Rattle.eos_machine.specs.declared.writer.Writer.{Writer}
use Rattle.eos_machine.specs.steps.Joined.{AreJoined}
use Rattle.eos_machine.specs.Batches.{group, transactional_id, bytes_of, claim_headers, headers_of, offset_record, control_type, marker_record, plain, transactional, control, event_of, item_writer, item_record, record_after, last_or, batch_of, behind, batches_after, led, AreTexts, second_group, source_key, commit_of}
use Rattle.eos_machine.specs.Evidences.{part_at, batches_at, HaveTexts}
use Rattle.eos_machine.specs.Fitting.{IsFit}
use Rattle.eos_machine.proofs.BatchSizes.{key_written}
use Rattle.eos_machine.specs.declared.state.Election.{Election}
use Rattle.eos_machine.proofs.Led.{led_tested, epoch_small}
use Rattle.eos_machine.proofs.BatchTests.{batch_tested}
use Rattle.eos_machine.proofs.ByteTexts.{no_bytes, one_more, known_bytes, i16_bytes, i32_bytes, i64_bytes}
use Rattle.eos_machine.proofs.FittingTests.{fit_event, fit_last}
use Rattle.eos_machine.proofs.Grouping.{are_joined, joining_few, joining_within}
use Rattle.eos_machine.proofs.SegmentsFit.{all_drop}
use Rattle.eos_machine.proofs.StateValues.{state_bytes, all_read_back}
use Rattle.eos_simulate.proofs.CoveredBytes.{AreHeaders, IsOfBytes, written_text}

-- ---- who writes

-- each number fits its field
record FitsWriter (w : Writer) : Type 0 where
  attributes : FitsSigned w16 w.attributes
  producer : FitsSigned w64 w.producer
  epoch : FitsSigned w16 w.epoch
  sequence : FitsSigned w32 w.sequence

fits_plain : FitsWriter plain
fits_plain = record { attributes = record { sfits = omega arith }; producer = record { sfits = omega arith }; epoch = record { sfits = omega arith }; sequence = record { sfits = omega arith } }

fits_transactional : (c : Config) (a e : ℕ) (q : ℤ) → IsConfig c → a < application_count c → e < 2 ^ 15 → FitsSigned w32 q → FitsWriter (transactional a e q)
fits_transactional c a e q i l m f =
    let most = few_applications c i in
    record { attributes = record { sfits = omega arith }; producer = record { sfits = omega (arith, l, most) }; epoch = record { sfits = m }; sequence = f }

fits_control : (c : Config) (a e : ℕ) → IsConfig c → a < application_count c → e < 2 ^ 15 → FitsWriter (control a e)
fits_control c a e i l m =
    let most = few_applications c i in
    record { attributes = record { sfits = omega arith }; producer = record { sfits = omega (arith, l, most) }; epoch = record { sfits = m }; sequence = record { sfits = omega arith } }

fits_writer : (c : Config) (x : Item) → IsConfig c → IsFit c x → FitsWriter (item_writer x)
fits_writer c (Fed n) i f = fits_plain
fits_writer c (State a x n) i f = fits_plain
fits_writer c (Output a e s x v n) i f = fits_transactional c a e (pos s) i f.0 f.1 (record { sfits = f.2 })
fits_writer c (Offset a e q v n) i f = fits_transactional c a e (negsuc 0) i f.0 f.1 (record { sfits = omega arith })
fits_writer c (Marker a e k n) i f = fits_control c a e i f.0 f.1

-- ---- what is written

difference_fits : (m n : ℕ) → m < 2 ^ 63 → n < 2 ^ 63 → FitsSigned w64 (pos m -ℤ pos n)
difference_fits m n l k = fits_signed_from_abs w64 (pos m -ℤ pos n) (below m n l k)
  where
    below : (m n : ℕ) → m < 2 ^ 63 → n < 2 ^ 63 → unsigned_abs (pos m -ℤ pos n) < 2 ^ 63
    below m n l k = grind (arith, ints, l, k)

no_attributes : (c : Config) (x : Item) → (item_record c x).attributes ≡ pos 0
no_attributes c (Fed n) = refl
no_attributes c (State a x n) = refl
no_attributes c (Output a e s x v n) = refl
no_attributes c (Offset a e q v n) = refl
no_attributes c (Marker a e k n) = refl

widths : (c : Config) (n : ℕ) (x : Item) → n < 2 ^ 63 → IsFit c x → HasRecordWidths (record_after c n x)
widths c n x l f = record {
  attributes = subst (FitsSigned w8) (sym (no_attributes c x)) (record { sfits = omega arith });
  timestamp_delta = difference_fits (event_of x) n (fit_event c x f) l;
}

id_bytes : (a : ℕ) → a < 9 → IsBytes (transactional_id a)
id_bytes a l = IsBytes-append (codes "app-") ((48 + a) ∷ []) (known_bytes (codes "app-") refl) (one_more (48 + a) [] (omega (arith, l)) no_bytes)

state_key : (a : ℕ) → a < 9 → IsBytes (bytes_of (write_key (transactional_id a)))
state_key a l =
    subst IsBytes (sym (ap bytes_of (key_written a)))
    (IsBytes-append (i16_text (pos 0)) (i16_text (pos 5) ++ transactional_id a) (i16_bytes (pos 0)) (IsBytes-append (i16_text (pos 5)) (transactional_id a) (i16_bytes (pos 5)) (id_bytes a l)))

headers_of_claim : (x : Claim) → IsBytes x.topic → AreHeaders (claim_headers x)
headers_of_claim x h = (
  known_bytes (codes "eo.topic") refl,
  h,
  (known_bytes (codes "eo.partition") refl, i32_bytes x.partition, (known_bytes (codes "eo.offset") refl, i64_bytes x.offset, (known_bytes (codes "eo.output") refl, i32_bytes x.output, (known_bytes (codes "eo.of") refl, i32_bytes x.of, tt)))),
)

headers_bytes : (x : Option Claim) → IsBytes (claimed_topic x) → AreHeaders (headers_of x)
headers_bytes None h = tt
headers_bytes (Some x) h = headers_of_claim x h

named_bytes : (name : List ℕ) → IsBytes name → IsBytes (string_text Plain name)
named_bytes name h = IsBytes-append (i16_text (pos (length name))) name (i16_bytes (pos (length name))) h

key_bytes : (group topic : List ℕ) (n : ℕ) → IsBytes group → IsBytes topic → IsBytes (offsets.key_bytes (record { group = group; topic = topic; partition = pos n }))
unfolding offsets.key_bytes
key_bytes group topic n g t =
    IsBytes-append (i16_text (pos 1)) (string_text Plain group ++ (string_text Plain topic ++ i32_text (pos n))) (i16_bytes (pos 1))
    (IsBytes-append (string_text Plain group) (string_text Plain topic ++ i32_text (pos n)) (named_bytes group g)
    (IsBytes-append (string_text Plain topic) (i32_text (pos n)) (named_bytes topic t) (i32_bytes (pos n))))

offset_key : (c : Config) (q : ℕ) → IsBytes (bytes_of (offsets.write_key (source_key c q)))
offset_key c q = by (nat_lt q c.inputs)
  where
    by : (t : Bool) → IsBytes (bytes_of (offsets.write_key (if t then record { group = group; topic = input_topic; partition = pos q } else record { group = second_group; topic = output_topic; partition = pos (q - c.inputs) })))
    by true = key_bytes group input_topic q (known_bytes group refl) (known_bytes input_topic refl)
    by false = key_bytes second_group output_topic (q - c.inputs) (known_bytes second_group refl) (known_bytes output_topic refl)

offset_value : (k : OffsetKey) (v : ℕ) → IsBytes (bytes_of (offsets.write_value (commit_of k (pos v)) (pos 3)))
unfolding offsets.value_bytes
offset_value k v =
    IsBytes-append (i16_text (pos 3)) (i64_text (pos v) ++ (i32_text (negsuc 0) ++ (string_text Plain [] ++ (i64_text (pos 0) ++ [])))) (i16_bytes (pos 3))
    (IsBytes-append (i64_text (pos v)) (i32_text (negsuc 0) ++ (string_text Plain [] ++ (i64_text (pos 0) ++ []))) (i64_bytes (pos v))
    (IsBytes-append (i32_text (negsuc 0)) (string_text Plain [] ++ (i64_text (pos 0) ++ [])) (i32_bytes (negsuc 0))
    (IsBytes-append (string_text Plain []) (i64_text (pos 0) ++ []) (named_bytes [] no_bytes) (IsBytes-append (i64_text (pos 0)) [] (i64_bytes (pos 0)) no_bytes))))

commit_bytes : (c : Config) (q : ℕ) (v : Option ℕ) → IsOfBytes (offset_record c q v)
commit_bytes c q None = record { key = offset_key c q; value = tt; headers = tt }
commit_bytes c q (Some v) = record { key = offset_key c q; value = offset_value (source_key c q) v; headers = tt }

marker_bytes : (k : Kind) → IsOfBytes (marker_record k)
marker_bytes k = record {
  key = IsBytes-append (i16_text (pos 0)) (i16_text (control_type k)) (i16_bytes (pos 0)) (i16_bytes (control_type k));
  value = IsBytes-append (i16_text (pos 0)) (i32_text (pos 0)) (i16_bytes (pos 0)) (i32_bytes (pos 0));
  headers = tt;
}

-- ---- an item, and several

-- a claim's topic is bytes
abbrev pub HasBytes : Item → Type 0
HasBytes (Fed n) = ⊤
HasBytes (State a x n) = ⊤
HasBytes (Output a e s x v n) = IsBytes (claimed_topic x)
HasBytes (Offset a e q v n) = ⊤
HasBytes (Marker a e k n) = ⊤

record_bytes : (c : Config) (n : ℕ) (x : Item) → IsConfig c → IsFit c x → HasBytes x → IsOfBytes (record_after c n x)
record_bytes c n (Fed m) i f h = record { key = tt; value = i64_bytes (pos m); headers = tt }
record_bytes c n (State a x m) i f h = record { key = state_key a (let most = few_applications c i in omega (arith, f.0, most)); value = state_bytes c a x m i f.2; headers = tt }
record_bytes c n (Output a e s x v m) i f h = record { key = tt; value = i64_bytes (pos v); headers = headers_bytes x h }
record_bytes c n (Offset a e q v m) i f h = let b = commit_bytes c q v in record { key = b.key; value = b.value; headers = b.headers }
record_bytes c n (Marker a e k m) i f h = let b = marker_bytes k in record { key = b.key; value = b.value; headers = b.headers }

-- each of these
all_widths : (c : Config) (n : ℕ) (xs : List Item) → n < 2 ^ 63 → All (IsFit c) xs → All HasRecordWidths (map (record_after c n) xs)
all_widths c n [] l f = All-nil HasRecordWidths
all_widths c n (x ∷ xs) l f = All-cons HasRecordWidths (record_after c n x) (map (record_after c n) xs) (widths c n x l (All-head (IsFit c) x xs f)) (all_widths c n xs l (All-tail (IsFit c) x xs f))

all_bytes : (c : Config) (n : ℕ) (xs : List Item) → IsConfig c → All (IsFit c) xs → All HasBytes xs → All IsOfBytes (map (record_after c n) xs)
all_bytes c n [] i f h = All-nil IsOfBytes
all_bytes c n (x ∷ xs) i f h =
    All-cons IsOfBytes (record_after c n x) (map (record_after c n) xs) (record_bytes c n x i (All-head (IsFit c) x xs f) (All-head HasBytes x xs h)) (all_bytes c n xs i (All-tail (IsFit c) x xs f) (All-tail HasBytes x xs h))

-- the leader epochs are as small as Kafka's
abbrev pub AreEpochs : List Election → Type 0
AreEpochs es = All (λ x. x.leader_epoch < 2 ^ 16) es

batch_text : (c : Config) (p : ℕ) (es : List Election) (o : ℕ) (x : Item) (ys : List Item) → IsConfig c → AreEpochs es → o + length ys < 2 ^ 63 → length ys < 1000 → AreJoined x ys → All (IsFit c) (x ∷ ys) → All HasBytes (x ∷ ys) → IsBatchText (batch_text_of (led p es (batch_of c o x ys))) (led p es (batch_of c o x ys))
batch_text c p es o x ys i k l m j f h =
    let w = fits_writer c x i (All-head (IsFit c) x ys f) in
    let e = fit_event c x (All-head (IsFit c) x ys f) in
    let g = fit_event c (last_or x ys) (fit_last c x ys f) in
    let n = epoch_small p (pos o) es k in
    written_text (led p es (batch_of c o x ys)) (led_tested p es (batch_of c o x ys) ∙ batch_tested c o x ys i l m j f) (record {
      attributes = w.attributes;
      base_timestamp = record { sfits = e };
      max_timestamp = record { sfits = g };
      producer = w.producer;
      epoch = w.epoch;
      sequence = w.sequence;
      records = all_widths c (event_of x) (x ∷ ys) e f;
    }) (record { sfits = omega (arith, l) }) (record { sfits = omega (arith, n) }) (all_bytes c (event_of x) (x ∷ ys) i f h)

-- the batches of items, of which so many at the front stand in a batch already
are_texts : (c : Config) (p : ℕ) (es : List Election) (n o : ℕ) (xs : List Item) → IsConfig c → AreEpochs es → o + length xs < 2 ^ 63 → All (IsFit c) xs → All HasBytes xs → AreTexts (map (led p es) (batches_after c n o xs))
are_texts c p es n o [] i g l f h = tt
are_texts c p es zero o (x ∷ xs) i g l f h =
    let m : ℕ = behind c x xs in
    let few = joining_few (c.batch_records - 1) x xs in
    let within = joining_within (c.batch_records - 1) x xs in
    let t = length-take m xs in (
      batch_text c p es o x (take m xs) i g (omega (arith, l, within, t)) (omega (arith, few, t, i.batch_records.0, i.batch_records.1)) (are_joined (c.batch_records - 1) x xs)
          (All-cons (IsFit c) x (take m xs) (All-head (IsFit c) x xs f) (All-take (IsFit c) m xs (All-tail (IsFit c) x xs f)))
          (All-cons HasBytes x (take m xs) (All-head HasBytes x xs h) (All-take HasBytes m xs (All-tail HasBytes x xs h))),
      are_texts c p es m (o + 1) xs i g (omega (arith, l)) (All-tail (IsFit c) x xs f) (All-tail HasBytes x xs h),
    )
are_texts c p es (suc n) o (x ∷ xs) i g l f h = are_texts c p es n (o + 1) xs i g (omega (arith, l)) (All-tail (IsFit c) x xs f) (All-tail HasBytes x xs h)

-- ---- a log

begins_inside : (n r i : ℕ) → 1 ≤ r → i < (n + (r - 1)) / r → i * r < n
begins_inside n r i l h =
    let d = div-add-mod (n + (r - 1)) r in
    let s = mul_comm ((n + (r - 1)) / r) r in
    let g : (i + 1) * r ≤ (n + (r - 1)) / r * r = mul-le-mul_right r (omega (arith, h)) in
    let t = add-mul i 1 r in
    omega (arith, d, s, g, t, l)

pub have_texts : (c : Config) (p : ℕ) (es : List Election) (log : List Item) → IsConfig c → AreEpochs es → length log < 2 ^ 63 → All (IsFit c) log → All HasBytes log → HaveTexts c p es log
have_texts c p es log i g l f h = record {
  texts = λ k m. part k (begins_inside (length log) c.segment_records k i.segment_records.0 m);
  reads = all_read_back c log i f;
}
  where
    part : (k : ℕ) → k * c.segment_records < length log → AreTexts (batches_at c p es log k)
    part k m =
        let t = length-take c.segment_records (drop (k * c.segment_records) log) in
        let d = length-drop (k * c.segment_records) log in
        are_texts c p es 0 (k * c.segment_records) (part_at c log k) i g (omega (arith, t, d, m, l))
        (All-take (IsFit c) c.segment_records (drop (k * c.segment_records) log) (all_drop (IsFit c) (k * c.segment_records) log f))
        (All-take HasBytes c.segment_records (drop (k * c.segment_records) log) (all_drop HasBytes (k * c.segment_records) log h))
