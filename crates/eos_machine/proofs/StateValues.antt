-- The value of a state's record is bytes, and reads back.
use Rattle.std.proofs.Common.{◌≡◌, ℕ, ◌+◌, ◌^◌, ◌<◌, ◌≤◌, ◌==◌, ◌&&◌, Bool, true, false, ℤ, pos, List, [], ◌∷◌, ◌++◌, length, flat_map, Ok, refl, sym, ap, subst, ◌∙◌, arith, nat_le, nat_lt, if◌then◌else◌, FitsSigned, w32}
use Rattle.std.specs.List.{All, list_all}
use Rattle.std.proofs.lemmas.List.Elements.{All-nil, All-cons, All-head, All-tail, All-weaker}
use Rattle.eos_base.specs.Fallible.{must}
use Rattle.eos_base.specs.declared.record_fault.RecordFault.TheVariants as faults
use Rattle.eos_wire.specs.Numbers.{IsBytes, i8_text, i16_text, i32_text, i64_text}
use Rattle.eos_wire.specs.Writing.{uvarint_of}
use Rattle.eos_wire.proofs.NumberTexts.{IsBytes-append}
use Rattle.eos_txnlog.specs.declared.partitions.TopicPartitions.{TopicPartitions}
use Rattle.eos_txnlog.specs.declared.value.TxnValue.{TxnValue}
use Rattle.eos_txnlog.specs.Status.{status_number}
use Rattle.eos_txnlog.specs.steps.Text.{FitNumbers, IsInRange}
use Rattle.eos_txnlog.specs.Reading.{read_value}
use Rattle.eos_txnlog.specs.Writing.{head_text, write_value}
use Rattle.eos_txnlog.proofs.ValueTexts.{value_whole}
use Rattle.eos_txnlog.proofs.WrittenTexts.{value_written as value_text_is}
use Rattle.eos_machine.specs.declared.config.Config.{Config}
use Rattle.eos_machine.specs.declared.item.Entry.{Entry}
use Rattle.eos_machine.specs.LogIndexes.{IsConfig, application_count, log_count, input_index, output_index, offsets_topic, transactions_topic, final_topic, input_topic, output_topic, topic_of, number_of, is_topic}
use Rattle.eos_machine.specs.Rest.{with_number, by_topic, value_of}
use Rattle.eos_machine.specs.declared.item.Item.{Item}
use Rattle.eos_machine.specs.declared.item.Item.TheVariants.{Fed, State, Output, Offset, Marker}
use Rattle.eos_machine.proofs.Written.{few_applications}
use Rattle.eos_machine.specs.Batches.{bytes_of, Reads, AreRead}
use Rattle.eos_machine.specs.Fitting.{AreAllThere, IsFit}
use Rattle.eos_machine.proofs.AcceptedParts.{number_small, place_few}
use Rattle.eos_machine.proofs.BatchSizes.{IsTopicOf, topics_few, value_written}
use Rattle.eos_machine.proofs.ByteTexts.{no_bytes, known_bytes, i8_bytes, i16_bytes, i32_bytes, i64_bytes, uvarint_bytes}

-- ---- topics and their numbers

topic_bytes : (c : Config) (p : ℕ) → IsBytes (topic_of c p)
topic_bytes c p = by (p == 0) (nat_le p c.transaction_logs) (nat_lt p (input_index c 0)) (nat_lt p (output_index c 0))
  where
    by : (x y f z : Bool) → IsBytes (if x then offsets_topic else if y then transactions_topic else if f then final_topic else if z then input_topic else output_topic)
    by true y f z = known_bytes offsets_topic refl
    by false true f z = known_bytes transactions_topic refl
    by false false true z = known_bytes final_topic refl
    by false false false true = known_bytes input_topic refl
    by false false false false = known_bytes output_topic refl

abbrev IsWritten : TopicPartitions → Type 0
IsWritten t = IsBytes t.topic × FitNumbers t

number_more : (k : ℕ) (zs : List ℤ) → k < 2 ^ 31 → All (FitsSigned w32) zs → All (FitsSigned w32) (pos k ∷ zs)
number_more k zs l h = All-cons (FitsSigned w32) (pos k) zs (record { sfits = l }) h

with_one : (topic : List ℕ) (k : ℕ) (ts : List TopicPartitions) → IsBytes topic → k < 2 ^ 31 → All IsWritten ts → All IsWritten (with_number topic k ts)
with_one topic k [] b l h = All-cons IsWritten (record { topic = topic; numbers = pos k ∷ [] }) [] (b, number_more k [] l (All-nil (FitsSigned w32))) h
with_one topic k (t ∷ ts) b l h =
    let a = All-head IsWritten t ts h in
    elim (is_topic topic t.topic) as (λ z. All IsWritten (if z then record { topic = t.topic; numbers = pos k ∷ t.numbers } ∷ ts else record { topic = topic; numbers = pos k ∷ [] } ∷ (t ∷ ts))) [
      | true ↦ All-cons IsWritten (record { topic = t.topic; numbers = pos k ∷ t.numbers }) ts (a.0, number_more k t.numbers l a.1) (All-tail IsWritten t ts h)
      | false ↦ All-cons IsWritten (record { topic = topic; numbers = pos k ∷ [] }) (t ∷ ts) (b, number_more k [] l (All-nil (FitsSigned w32))) h
    ]

grouped : (c : Config) (ps : List ℕ) → IsConfig c → All (λ p. p < log_count c) ps → All IsWritten (by_topic c ps)
grouped c [] i h = All-nil IsWritten
grouped c (p ∷ ps) i h =
    let n = number_small c p in
    let f = place_few c i in
    let l = All-head (λ q. q < log_count c) p ps h in
    with_one (topic_of c p) (number_of c p) (by_topic c ps) (topic_bytes c p) (omega (arith, n, f, l)) (grouped c ps i (All-tail (λ q. q < log_count c) p ps h))

-- ---- their bytes

numbers_bytes : (zs : List ℤ) → IsBytes (flat_map i32_text zs)
numbers_bytes [] = no_bytes
numbers_bytes (z ∷ zs) = IsBytes-append (i32_text z) (flat_map i32_text zs) (i32_bytes z) (numbers_bytes zs)

-- a topic, and the whole, in the flexible form
abbrev topic_text : TopicPartitions → List ℕ
topic_text t = (uvarint_of (length t.topic + 1) ++ t.topic) ++ ((uvarint_of (length t.numbers + 1) ++ flat_map i32_text t.numbers) ++ uvarint_of 0)

abbrev partitions_text : List TopicPartitions → List ℕ
partitions_text ts = uvarint_of (length ts + 1) ++ flat_map topic_text ts

abbrev tail_text : TxnValue → List ℕ
tail_text v = i64_text v.last_update ++ (i64_text v.start ++ uvarint_of 0)

abbrev value_text : TxnValue → List ℕ
value_text v = i16_text (pos 1) ++ (head_text v ++ (partitions_text v.partitions ++ tail_text v))

one_topic : (k : ℕ) (t : TopicPartitions) → k ≤ 53 → IsTopicOf k t → IsWritten t → IsBytes (topic_text t)
one_topic k t l s h =
    let name = IsBytes-append (uvarint_of (length t.topic + 1)) t.topic (uvarint_bytes (length t.topic + 1) (omega (arith, s.0))) h.0 in
    let numbers = IsBytes-append (uvarint_of (length t.numbers + 1)) (flat_map i32_text t.numbers) (uvarint_bytes (length t.numbers + 1) (omega (arith, s.1, l))) (numbers_bytes t.numbers) in
    IsBytes-append (uvarint_of (length t.topic + 1) ++ t.topic) ((uvarint_of (length t.numbers + 1) ++ flat_map i32_text t.numbers) ++ uvarint_of 0) name
    (IsBytes-append (uvarint_of (length t.numbers + 1) ++ flat_map i32_text t.numbers) (uvarint_of 0) numbers (uvarint_bytes 0 (omega arith)))

topics_bytes : (k : ℕ) (ts : List TopicPartitions) → k ≤ 53 → All (IsTopicOf k) ts → All IsWritten ts → IsBytes (flat_map topic_text ts)
topics_bytes k [] l s h = no_bytes
topics_bytes k (t ∷ ts) l s h =
    IsBytes-append (topic_text t) (flat_map topic_text ts) (one_topic k t l (All-head (IsTopicOf k) t ts s) (All-head IsWritten t ts h))
    (topics_bytes k ts l (All-tail (IsTopicOf k) t ts s) (All-tail IsWritten t ts h))

head_bytes : (v : TxnValue) → IsBytes (head_text v)
head_bytes v =
    IsBytes-append (i64_text v.producer) _ (i64_bytes v.producer) (IsBytes-append (i16_text v.epoch) _ (i16_bytes v.epoch)
    (IsBytes-append (i32_text v.timeout) (i8_text (status_number v.status)) (i32_bytes v.timeout) (i8_bytes (status_number v.status))))

tail_bytes : (v : TxnValue) → IsBytes (tail_text v)
tail_bytes v = IsBytes-append (i64_text v.last_update) _ (i64_bytes v.last_update) (IsBytes-append (i64_text v.start) (uvarint_of 0) (i64_bytes v.start) (uvarint_bytes 0 (omega arith)))

-- ---- the value

written_is : (c : Config) (a : ℕ) (x : Entry) (n : ℕ) → IsConfig c → AreAllThere c x.partitions → write_value (pos 1) (value_of c a x n) ≡ Ok (value_text (value_of c a x n))
written_is c a x n i h = value_written c a x n i h

pub state_bytes : (c : Config) (a : ℕ) (x : Entry) (n : ℕ) → IsConfig c → AreAllThere c x.partitions → IsBytes (bytes_of (write_value (pos 1) (value_of c a x n)))
state_bytes c a x n i h =
    let v : TxnValue = value_of c a x n in
    let t = topics_few c x.partitions in
    let f = place_few c i in
    let topics = topics_bytes (length x.partitions) v.partitions (omega (arith, f, h.1)) t.1 (grouped c x.partitions i h.0) in
    let partitions = IsBytes-append (uvarint_of (length v.partitions + 1)) (flat_map topic_text v.partitions) (uvarint_bytes (length v.partitions + 1) (omega (arith, t.0, h.1, f))) topics in
    let body = IsBytes-append (head_text v) (partitions_text v.partitions ++ tail_text v) (head_bytes v) (IsBytes-append (partitions_text v.partitions) (tail_text v) partitions (tail_bytes v)) in
    subst IsBytes (sym (ap bytes_of (written_is c a x n i h))) (IsBytes-append (i16_text (pos 1)) (head_text v ++ (partitions_text v.partitions ++ tail_text v)) (i16_bytes (pos 1)) body)

-- what is written has fit
abbrev fits_topic : TopicPartitions → Bool
fits_topic t = nat_lt (length t.topic + 1) (2 ^ 32) && nat_lt (length t.numbers + 1) (2 ^ 32)

abbrev fits : List TopicPartitions → Bool
fits ts = nat_lt (length ts + 1) (2 ^ 32) && list_all fits_topic ts

has_fit : (v : TxnValue) (t : List ℕ) → write_value (pos 1) v ≡ Ok t → fits v.partitions ≡ true
unfolding write_value
has_fit v t h = at (fits v.partitions) h
  where
    at : (b : Bool) → must b faults.Length (value_text v) ≡ Ok t → b ≡ true
    at true k = refl
    at false k = absurd cc

in_range : (c : Config) (a : ℕ) (x : Entry) (n : ℕ) → IsConfig c → a < application_count c → x.epoch < 2 ^ 15 → AreAllThere c x.partitions → n < 2 ^ 63 → IsInRange (value_of c a x n)
in_range c a x n i l e h m =
    let most = few_applications c i in
    record {
      head = record { producer = record { sfits = omega (arith, l, most) }; epoch = record { sfits = e }; timeout = record { sfits = omega arith } };
      tail = record { last_update = record { sfits = m }; start = record { sfits = m } };
      numbers = All-weaker IsWritten FitNumbers (λ t k. k.1) (by_topic c x.partitions) (grouped c x.partitions i h.0);
    }

state_reads : (c : Config) (a : ℕ) (x : Entry) (n : ℕ) → IsConfig c → a < application_count c → x.epoch < 2 ^ 15 → AreAllThere c x.partitions → n < 2 ^ 63
    → read_value (bytes_of (write_value (pos 1) (value_of c a x n))) ≡ Ok (value_of c a x n)
state_reads c a x n i l e h m =
    let v : TxnValue = value_of c a x n in
    let w = written_is c a x n i h in
    ap (λ r. read_value (bytes_of r)) w ∙ value_whole (value_text v) v (value_text_is (pos 1) _ v refl (has_fit v (value_text v) w) (in_range c a x n i l e h m))

-- each item of a log that fits reads back
reads_back : (c : Config) (x : Item) → IsConfig c → IsFit c x → Reads c x
reads_back c (Fed n) i h = tt
reads_back c (State a x n) i h = state_reads c a x n i h.0 h.1 h.2 h.3
reads_back c (Output a e s x v n) i h = tt
reads_back c (Offset a e q v n) i h = tt
reads_back c (Marker a e k n) i h = tt

pub all_read_back : (c : Config) (xs : List Item) → IsConfig c → All (IsFit c) xs → AreRead c xs
all_read_back c [] i h = tt
all_read_back c (x ∷ xs) i h = (reads_back c x i (All-head (IsFit c) x xs h), all_read_back c xs i (All-tail (IsFit c) x xs h))
