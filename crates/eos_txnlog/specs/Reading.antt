-- Reading a key or a value of `__transaction_state` (Kafka's schemas `TransactionLogKey` and `TransactionLogValue`; KIP-482
-- for the flexible form) from left to right, with the first fault that is met: the order of the refusals.
use Rattle.std.specs.Prelude.{ℕ, ℤ, pos, List, Option, Some, None, unwrap_or, Result, Ok, if◌then◌else◌}
use Rattle.std.specs.Ordering.{int_eq}
use Rattle.eos_wire.specs.Numbers.{i8_at, i16_at, i32_at, i64_at}
use Rattle.eos_base.specs.Fallible.{◌>>=◌, or_fault}
use Rattle.eos_base.specs.Records.{present, ended}
use Rattle.eos_base.specs.declared.record_fault.RecordFault.{RecordFault}
use Rattle.eos_base.specs.declared.record_fault.RecordFault.TheVariants as faults
use Rattle.eos_wire.specs.declared.form.Form.{Form}
use Rattle.eos_wire.specs.declared.form.Form.TheVariants.{Plain}
use Rattle.eos_wire.specs.Reading.{count_from, string_from, many_from, section_from}
use Rattle.eos_txnlog.specs.declared.status.Status.{Status}
use Rattle.eos_txnlog.specs.declared.partitions.TopicPartitions.{TopicPartitions}
use Rattle.eos_txnlog.specs.declared.value.TxnValue.{TxnValue}
use Rattle.eos_txnlog.specs.Status.{status_of}
use Rattle.eos_txnlog.specs.Text.{form_of}

-- ---- the status

abbrev pub known_status : Option Status → Result Status RecordFault
known_status = or_fault faults.Status

unfoldable pub status_from : List ℕ → Result (Status × List ℕ) RecordFault
status_from bytes = do
  number ← present (i8_at bytes)
  status ← known_status (status_of number.0)
  Ok (status, number.1)

-- ---- the numbers of partitions

abbrev pub number_from : List ℕ → Result (ℤ × List ℕ) RecordFault
number_from bytes = present (i32_at bytes)

-- a count that may not be null
abbrev pub not_null : Option ℕ → Result ℕ RecordFault
not_null = or_fault faults.Length

unfoldable pub not_null_count_from : Form → List ℕ → Result (ℕ × List ℕ) RecordFault
not_null_count_from form bytes = do
  count ← count_from form bytes
  n ← not_null count.0
  Ok (n, count.1)

-- the numbers of a topic's partitions
unfoldable pub numbers_from : Form → List ℕ → Result (List ℤ × List ℕ) RecordFault
numbers_from form bytes = do
  count ← not_null_count_from form bytes
  many_from number_from count.0 count.1

-- ---- values

unfoldable pub topic_from : Form → List ℕ → Result (TopicPartitions × List ℕ) RecordFault
topic_from form bytes = do
  topic ← string_from form bytes
  numbers ← numbers_from form topic.1
  section ← section_from form numbers.1
  Ok (record { topic = topic.0; numbers = numbers.0 }, section.1)

-- null is an empty list
unfoldable pub partitions_from : Form → List ℕ → Result (List TopicPartitions × List ℕ) RecordFault
partitions_from form bytes = do
  count ← count_from form bytes
  many_from (topic_from form) (unwrap_or count.0 0) count.1

unfoldable pub body_from : Form → List ℕ → Result (TxnValue × List ℕ) RecordFault
body_from form bytes = do
  producer ← present (i64_at bytes)
  epoch ← present (i16_at producer.1)
  timeout ← present (i32_at epoch.1)
  status ← status_from timeout.1
  partitions ← partitions_from form status.1
  last_update ← present (i64_at partitions.1)
  start ← present (i64_at last_update.1)
  section ← section_from form start.1
  Ok (record { producer = producer.0; epoch = epoch.0; timeout = timeout.0; status = status.0; partitions = partitions.0; last_update = last_update.0; start = start.0 }, section.1)

abbrev pub known_form : Option Form → Result Form RecordFault
known_form = or_fault faults.Version

-- the fields after the version, which are all that is left
abbrev pub whole_body : Form → List ℕ → Result TxnValue RecordFault
whole_body form bytes = body_from form bytes >>= ended

unfoldable pub read_value : List ℕ → Result TxnValue RecordFault
read_value bytes = do
  version ← present (i16_at bytes)
  form ← known_form (form_of version.0)
  whole_body form version.1

-- ---- keys

abbrev pub id_from : List ℕ → Result (Option (List ℕ)) RecordFault
id_from bytes = do
  id ← string_from Plain bytes
  whole ← ended id
  Ok (Some whole)

-- a key of another version isn't looked into
unfoldable pub read_key : List ℕ → Result (Option (List ℕ)) RecordFault
read_key bytes = do
  version ← present (i16_at bytes)
  if int_eq version.0 (pos 0) then id_from version.1 else Ok None
