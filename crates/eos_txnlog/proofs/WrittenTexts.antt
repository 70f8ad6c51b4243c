-- What is written is a text of the value.
use Rattle.std.proofs.Common.{◌≡◌, ℕ, suc, ◌+◌, ◌^◌, Bool, true, false, List, [], ◌∷◌, length, flat_map, Some, refl, sym, append_assoc, arith, ℤ, inl}
use Rattle.std.specs.Prelude.{◌&&◌, All, FitsSigned}
use Rattle.std.specs.Int.{w32}
use Rattle.std.specs.List.{list_all}
use Rattle.std.proofs.lemmas.Bool.{ltb-true}
use Rattle.std.proofs.lemmas.List.{append-nil}
use Rattle.eos_wire.specs.Numbers.{i32_text}
use Rattle.eos_wire.specs.Writing.{uvarint_of}
use Rattle.eos_wire.proofs.Spellings.{uvarint_shortest}
use Rattle.eos_wire.specs.declared.form.Form.{Form}
use Rattle.eos_wire.specs.declared.form.Form.TheVariants.{Plain, Flexible}
use Rattle.eos_txnlog.specs.declared.partitions.TopicPartitions.{TopicPartitions}
use Rattle.eos_txnlog.specs.declared.value.TxnValue.{TxnValue}
use Rattle.eos_wire.specs.Texts.{IsLengthText, IsCountText, IsStringText, AreTexts, IsListText, IsSectionText}
use Rattle.eos_txnlog.specs.Text.{form_of, IsNumberText, IsKeyText, IsTopicText, IsPartitionsText, IsBodyText, IsValueText}
use Rattle.eos_txnlog.specs.steps.Text.{FitNumbers, IsInRange}
use Rattle.eos_wire.specs.FieldWriting.{fits_length, fits_count, length_text, count_text, section_text, string_text}
use Rattle.eos_txnlog.specs.Writing.{numbers_text, fits_topic, topic_text, fits_partitions, partitions_text, body_text, value_text, key_text}

both : (a b : Bool) → (a && b) ≡ true → (a ≡ true) × (b ≡ true)
both true b e = (refl, e)
both false b e = absurd cc

-- ---- lengths

length_written : (form : Form) (n : ℕ) → fits_length form n ≡ true → IsLengthText form (length_text form n) n
length_written Plain n e = (ltb-true n (2 ^ 15) e, refl)
length_written Flexible n e = (uvarint_shortest (n + 1) (ltb-true (n + 1) (2 ^ 32) e)).0

count_written : (form : Form) (n : ℕ) → fits_count form n ≡ true → IsCountText form (count_text form n) n
count_written Plain n e = (ltb-true n (2 ^ 31) e, refl)
count_written Flexible n e = (uvarint_shortest (n + 1) (ltb-true (n + 1) (2 ^ 32) e)).0

pub section_written : (form : Form) → IsSectionText form (section_text form)
section_written Plain = refl
section_written Flexible = ([], uvarint_of 0, [], (uvarint_shortest 0 (omega arith)).0, refl, sym (append-nil (uvarint_of 0)))

-- ---- texts and lists

string_written : (form : Form) (bytes : List ℕ) → fits_length form (length bytes) ≡ true → IsStringText form (string_text form bytes) bytes
string_written form bytes e = (length_text form (length bytes), length_written form (length bytes) e, refl)

rest_of : {X : Type 0} (P : X → Type 0) (x : X) (xs : List X) → All P (x ∷ xs) → All P xs
rest_of P x xs all = λ k d lt. all (suc k) d (omega arith)

many_written : (numbers : List ℤ) → All (FitsSigned w32) numbers → AreTexts IsNumberText (flat_map i32_text numbers) numbers
many_written [] all = refl
many_written (z ∷ zs) all = (i32_text z, flat_map i32_text zs, (all 0 z (omega arith), refl), many_written zs (rest_of (FitsSigned w32) z zs all), refl)

numbers_written : (form : Form) (numbers : List ℤ) → fits_count form (length numbers) ≡ true → All (FitsSigned w32) numbers → IsListText form IsNumberText (numbers_text form numbers) numbers
numbers_written form numbers e all = (count_text form (length numbers), flat_map i32_text numbers, count_written form (length numbers) e, many_written numbers all, refl)

topic_written : (form : Form) (topic : TopicPartitions) → fits_topic form topic ≡ true → FitNumbers topic → IsTopicText form (topic_text form topic) topic
topic_written form topic e all =
    let b = both (fits_length form (length topic.topic)) (fits_count form (length topic.numbers)) e in
    record {
      topic = string_text form topic.topic;
      numbers = numbers_text form topic.numbers;
      section = section_text form;
      topic_text = string_written form topic.topic b.0;
      numbers_text = numbers_written form topic.numbers b.1 all;
      section_text = section_written form;
      parts = refl;
    }

topics_written : (form : Form) (topics : List TopicPartitions) → list_all (fits_topic form) topics ≡ true → All FitNumbers topics → AreTexts (IsTopicText form) (flat_map (topic_text form) topics) topics
topics_written form [] e all = refl
topics_written form (t ∷ ts) e all =
    let b = both (fits_topic form t) (list_all (fits_topic form) ts) e in
    (topic_text form t, flat_map (topic_text form) ts, topic_written form t b.0 (all 0 t (omega arith)), topics_written form ts b.1 (rest_of FitNumbers t ts all), refl)

-- ---- values

pub partitions_written : (form : Form) (topics : List TopicPartitions) → fits_partitions form topics ≡ true → All FitNumbers topics → IsPartitionsText form (partitions_text form topics) topics
partitions_written form topics e all =
    let b = both (fits_count form (length topics)) (list_all (fits_topic form) topics) e in
    inl (count_text form (length topics), flat_map (topic_text form) topics, count_written form (length topics) b.0, topics_written form topics b.1 all, refl)

body_written : (form : Form) (value : TxnValue) → fits_partitions form value.partitions ≡ true → IsInRange value → IsBodyText form (body_text form value) value
body_written form value e range = record {
  partitions = partitions_text form value.partitions;
  section = section_text form;
  head_fits = range.head;
  tail_fits = range.tail;
  partitions_text = partitions_written form value.partitions e range.numbers;
  section_text = section_written form;
  parts = simp append_assoc;
}

pub value_written : (version : ℤ) (form : Form) (value : TxnValue) → form_of version ≡ Some form → fits_partitions form value.partitions ≡ true → IsInRange value → IsValueText (value_text version form value) value
value_written version form value known fits range = record {
  version = version;
  form = form;
  body = body_text form value;
  known = known;
  body_text = body_written form value fits range;
  parts = refl;
}

-- ---- keys

pub key_written : (id : List ℕ) → fits_length Plain (length id) ≡ true → IsKeyText (key_text id) id
key_written id fits = record { id_part = string_text Plain id; id_text = string_written Plain id fits; parts = refl }
