-- The bytes that are written for a key or a value of `__transaction_state` (Kafka's schemas `TransactionLogKey` and
-- `TransactionLogValue`; KIP-482 for the flexible form), and what fits its length fields. The choices of the writer:
-- numbers in their shortest spelling, an empty list by the count 0, and no tagged fields.
use Rattle.std.specs.Prelude.{ℕ, ℤ, pos, Bool, ◌&&◌, List, ◌++◌, length, flat_map, Result}
use Rattle.std.specs.List.{list_all}
use Rattle.eos_wire.specs.Numbers.{i8_text, i16_text, i32_text, i64_text}
use Rattle.eos_base.specs.Fallible.{◌>>=◌, must}
use Rattle.eos_base.specs.declared.record_fault.RecordFault.{RecordFault}
use Rattle.eos_base.specs.declared.record_fault.RecordFault.TheVariants as faults
use Rattle.eos_wire.specs.declared.form.Form.{Form}
use Rattle.eos_wire.specs.declared.form.Form.TheVariants.{Plain}
use Rattle.eos_wire.specs.FieldWriting.{fits_length, fits_count, count_text, section_text, string_text}
use Rattle.eos_txnlog.specs.declared.partitions.TopicPartitions.{TopicPartitions}
use Rattle.eos_txnlog.specs.declared.value.TxnValue.{TxnValue}
use Rattle.eos_txnlog.specs.Status.{status_number}
use Rattle.eos_txnlog.specs.Text.{form_of}
use Rattle.eos_txnlog.specs.Reading.{known_form}

-- ---- lists

abbrev pub numbers_text : Form → List ℤ → List ℕ
numbers_text form numbers = count_text form (length numbers) ++ flat_map i32_text numbers

abbrev pub fits_topic : Form → TopicPartitions → Bool
fits_topic form topic = fits_length form (length topic.topic) && fits_count form (length topic.numbers)

abbrev pub topic_text : Form → TopicPartitions → List ℕ
topic_text form topic = string_text form topic.topic ++ (numbers_text form topic.numbers ++ section_text form)

abbrev pub fits_partitions : Form → List TopicPartitions → Bool
fits_partitions form topics = fits_count form (length topics) && list_all (fits_topic form) topics

abbrev pub partitions_text : Form → List TopicPartitions → List ℕ
partitions_text form topics = count_text form (length topics) ++ flat_map (topic_text form) topics

-- ---- keys and values

-- the fields before and after the partitions
abbrev pub head_text : TxnValue → List ℕ
head_text value = i64_text value.producer ++ (i16_text value.epoch ++ (i32_text value.timeout ++ i8_text (status_number value.status)))

abbrev pub tail_text : Form → TxnValue → List ℕ
tail_text form value = i64_text value.last_update ++ (i64_text value.start ++ section_text form)

abbrev pub body_text : Form → TxnValue → List ℕ
body_text form value = head_text value ++ (partitions_text form value.partitions ++ tail_text form value)

abbrev pub value_text : ℤ → Form → TxnValue → List ℕ
value_text version form value = i16_text version ++ body_text form value

-- what doesn't fit its length field is refused
unfoldable pub write_value : ℤ → TxnValue → Result (List ℕ) RecordFault
write_value version value = do
  form ← known_form (form_of version)
  must (fits_partitions form value.partitions) faults.Length (value_text version form value)

abbrev pub key_text : List ℕ → List ℕ
key_text id = i16_text (pos 0) ++ string_text Plain id

unfoldable pub write_key : List ℕ → Result (List ℕ) RecordFault
write_key id = must (fits_length Plain (length id)) faults.Length (key_text id)
