-- Which bytes are a key or a value of `__transaction_state`: Kafka's schemas `TransactionLogKey` (version 0) and
-- `TransactionLogValue` (version 0, and version 1 in KIP-482's flexible form). Fixed numbers are big-endian.
use Rattle.std.specs.Prelude.{◌≡◌, ℕ, ℤ, pos, List, [], ◌++◌, Option, Some, None, FitsSigned, ◌⊎◌, if◌then◌else◌}
use Rattle.std.specs.Int.{w16, w32, w64}
use Rattle.std.specs.Ordering.{int_eq}
use Rattle.eos_wire.specs.Numbers.{i8_text, i16_text, i32_text, i64_text}
use Rattle.eos_wire.specs.declared.form.Form.{Form}
use Rattle.eos_wire.specs.declared.form.Form.TheVariants.{Plain, Flexible}
use Rattle.eos_wire.specs.Texts.{IsStringText, IsListText, IsNullText, IsSectionText}
use Rattle.eos_txnlog.specs.declared.partitions.TopicPartitions.{TopicPartitions}
use Rattle.eos_txnlog.specs.declared.value.TxnValue.{TxnValue}
use Rattle.eos_txnlog.specs.Status.{status_number}

-- version 0 is plain, version 1 flexible
abbrev pub form_of : ℤ → Option Form
form_of version = if int_eq version (pos 0) then Some Plain else if int_eq version (pos 1) then Some Flexible else None

-- ---- the number of a partition

abbrev pub IsNumberText : List ℕ → ℤ → Type 0
IsNumberText text number = FitsSigned w32 number × (text ≡ i32_text number)

-- ---- keys

-- the transactional id under key version 0
pub record IsKeyText (text id : List ℕ) : Type 0 where
  pub id_part : List ℕ
  pub id_text : IsStringText Plain id_part id
  pub parts : text ≡ i16_text (pos 0) ++ id_part

-- ---- values

-- `Topic`, `PartitionIds`
pub record IsTopicText (form : Form) (text : List ℕ) (value : TopicPartitions) : Type 0 where
  pub topic : List ℕ
  pub numbers : List ℕ
  pub section : List ℕ
  pub topic_text : IsStringText form topic value.topic
  pub numbers_text : IsListText form IsNumberText numbers value.numbers
  pub section_text : IsSectionText form section
  pub parts : text ≡ topic ++ (numbers ++ section)

-- `TransactionPartitions`; null stands for an empty list
abbrev pub IsPartitionsText : Form → List ℕ → List TopicPartitions → Type 0
IsPartitionsText form text topics = IsListText form (IsTopicText form) text topics ⊎ (IsNullText form text × (topics ≡ []))

-- the numbers before and after the partitions fit their fields
pub record FitsHead (value : TxnValue) : Type 0 where
  pub producer : FitsSigned w64 value.producer
  pub epoch : FitsSigned w16 value.epoch
  pub timeout : FitsSigned w32 value.timeout

pub record FitsTail (value : TxnValue) : Type 0 where
  pub last_update : FitsSigned w64 value.last_update
  pub start : FitsSigned w64 value.start

-- `ProducerId`, `ProducerEpoch`, `TransactionTimeoutMs`, `TransactionStatus`, `TransactionPartitions`,
-- `TransactionLastUpdateTimestampMs`, `TransactionStartTimestampMs`
pub record IsBodyText (form : Form) (text : List ℕ) (value : TxnValue) : Type 0 where
  pub partitions : List ℕ
  pub section : List ℕ
  pub head_fits : FitsHead value
  pub tail_fits : FitsTail value
  pub partitions_text : IsPartitionsText form partitions value.partitions
  pub section_text : IsSectionText form section
  pub parts : text ≡ i64_text value.producer ++ (i16_text value.epoch ++ (i32_text value.timeout ++ (i8_text (status_number value.status)
      ++ (partitions ++ (i64_text value.last_update ++ (i64_text value.start ++ section))))))

-- the version, then the fields in its form
pub record IsValueText (text : List ℕ) (value : TxnValue) : Type 0 where
  pub version : ℤ
  pub form : Form
  pub body : List ℕ
  pub known : form_of version ≡ Some form
  pub body_text : IsBodyText form body value
  pub parts : text ≡ i16_text version ++ body
