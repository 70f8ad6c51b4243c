-- Which bytes are a record batch of magic 2 (Kafka's documentation, "Message Format": record batch, record, header).
-- The parts stand in the order of the layout.
use Rattle.std.specs.Prelude.{◌≡◌, ℕ, suc, ◌+◌, ◌-◌, ◌<◌, ◌≤◌, ◌^◌, pos, negsuc, List, [], ◌∷◌, ◌++◌, length, take, drop, Option, Some, None, false, FitsSigned}
use Rattle.std.specs.Int.{w8}
use Rattle.eos_wire.specs.Varint.{IsVarint, IsVarlong}
use Rattle.eos_wire.specs.Numbers.{i8_text, i16_text, i32_text, i64_text, u32_text}
use Rattle.eos_wire.specs.Crc.{crc32c_of}
use Rattle.eos_batch.specs.declared.record.Header.{Header}
use Rattle.eos_batch.specs.declared.record.Record.{Record}
use Rattle.eos_batch.specs.declared.batch.Batch.{Batch}
use Rattle.eos_batch.specs.Attributes.{is_compressed}
use Rattle.eos_batch.specs.Rules.{IsCounted, IsControlRight, IsProducerRight, HasWidths}

-- a length and that many bytes
abbrev pub IsBytesText : List ℕ → List ℕ → Type 0
IsBytesText text bytes = (len : List ℕ) × IsVarint len (pos (length bytes)) × (text ≡ len ++ bytes)

-- the same, or the length -1 for null
abbrev pub IsOptionalText : List ℕ → Option (List ℕ) → Type 0
IsOptionalText text None = IsVarint text (negsuc 0)
IsOptionalText text (Some bytes) = IsBytesText text bytes

pub record IsHeaderText (text : List ℕ) (h : Header) : Type 0 where
  pub key : List ℕ
  pub value : List ℕ
  pub key_text : IsBytesText key h.key
  pub value_text : IsOptionalText value h.value
  pub parts : text ≡ key ++ value

abbrev pub AreHeaderTexts : List ℕ → List Header → Type 0
AreHeaderTexts text [] = text ≡ []
AreHeaderTexts text (h ∷ hs) = (first rest : List ℕ) × IsHeaderText first h × AreHeaderTexts rest hs × (text ≡ first ++ rest)

-- a record at this place of its batch, which is its offset delta, without its length
pub record IsBodyText (place : ℕ) (text : List ℕ) (r : Record) : Type 0 where
  pub timestamp : List ℕ
  pub delta : List ℕ
  pub key : List ℕ
  pub value : List ℕ
  pub count : List ℕ
  pub headers : List ℕ
  pub attributes_fit : FitsSigned w8 r.attributes
  pub timestamp_text : IsVarlong timestamp r.timestamp_delta
  pub delta_text : IsVarint delta (pos place)
  pub key_text : IsOptionalText key r.key
  pub value_text : IsOptionalText value r.value
  pub count_text : IsVarint count (pos (length r.headers))
  pub headers_text : AreHeaderTexts headers r.headers
  pub parts : text ≡ i8_text r.attributes ++ (timestamp ++ (delta ++ (key ++ (value ++ (count ++ headers)))))

pub record IsRecordText (place : ℕ) (text : List ℕ) (r : Record) : Type 0 where
  pub len : List ℕ
  pub body : List ℕ
  pub len_text : IsVarint len (pos (length body))
  pub body_text : IsBodyText place body r
  pub parts : text ≡ len ++ body

-- records one after the other, the first of them at this place
abbrev pub AreRecordTexts : ℕ → List ℕ → List Record → Type 0
AreRecordTexts place text [] = text ≡ []
AreRecordTexts place text (r ∷ rs) = (first rest : List ℕ) × IsRecordText place first r × AreRecordTexts (suc place) rest rs × (text ≡ first ++ rest)

-- the last offset delta, which is one below the number of records
abbrev pub last_offset_delta : Batch → ℕ
last_offset_delta b = length b.records - 1

-- what the checksum covers: from the attributes to the end
pub record IsCoveredText (text : List ℕ) (b : Batch) : Type 0 where
  pub records : List ℕ
  pub records_text : AreRecordTexts 0 records b.records
  pub parts : text
      ≡ i16_text b.attributes ++ (i32_text (pos (last_offset_delta b)) ++ (i64_text b.base_timestamp ++ (i64_text b.max_timestamp
      ++ (i64_text b.producer ++ (i16_text b.epoch ++ (i32_text b.sequence ++ (i32_text (pos (length b.records)) ++ records)))))))

-- The length counts the bytes after itself: a leader epoch, a magic and a checksum, which are 9, and what is covered.
pub record IsBatchText (text : List ℕ) (b : Batch) : Type 0 where
  pub covered : List ℕ
  pub covered_text : IsCoveredText covered b
  pub length_fits : 9 + length covered < 2 ^ 31
  pub checksum_fits : crc32c_of covered < 2 ^ 32
  pub widths : HasWidths b
  pub plain : is_compressed b.attributes ≡ false
  pub counted : IsCounted b
  pub control : IsControlRight b
  pub producer : IsProducerRight b
  pub parts : text
      ≡ i64_text b.base_offset ++ (i32_text (pos (9 + length covered)) ++ (i32_text b.leader_epoch ++ (i8_text (pos 2)
      ++ (u32_text (crc32c_of covered) ++ covered))))

-- the next so many bytes at this place are a text of the batch
abbrev pub HasTextAt : List ℕ → ℕ → Batch → ℕ → Type 0
HasTextAt bytes at b k = (at + k ≤ length bytes) × IsBatchText (take k (drop at bytes)) b
