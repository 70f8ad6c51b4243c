-- A value of the transaction log in two: the fields around its partitions, and their text. Where that text was read before, the
-- value is read without a look into it.
use Rattle.std.specs.Prelude.{◌≡◌, ℕ, ℤ, pos, true, List, [], ◌++◌, All}
use Rattle.eos_wire.specs.Numbers.{i16_text, i64_text}
use Rattle.eos_wire.specs.Texts.{IsSectionText}
use Rattle.eos_wire.specs.declared.form.Form.{Form}
use Rattle.eos_wire.specs.declared.form.Form.TheVariants.{Plain, Flexible}
use Rattle.eos_txnlog.specs.declared.partitions.TopicPartitions.{TopicPartitions}
use Rattle.eos_txnlog.specs.declared.value.TxnValue.{TxnValue}
use Rattle.eos_txnlog.specs.Text.{FitsHead, FitsTail}
use Rattle.eos_txnlog.specs.steps.Text.{FitNumbers}
use Rattle.eos_txnlog.specs.Writing.{fits_partitions, partitions_text, head_text}

abbrev pub version_of : Form → ℤ
version_of Plain = pos 0
version_of Flexible = pos 1

-- with these partitions in the place of its own
abbrev pub with_set : TxnValue → List TopicPartitions → TxnValue
with_set v partitions = record { producer = v.producer; epoch = v.epoch; timeout = v.timeout; status = v.status; partitions = partitions; last_update = v.last_update; start = v.start }

-- without partitions
abbrev pub bare_of : TxnValue → TxnValue
bare_of v = with_set v []

-- the section of a value: the plain form has none
abbrev pub section_in : Form → List ℕ → List ℕ
section_in Plain section = []
section_in Flexible section = section

-- the bytes are the fields of this value, this text where its partitions stand, and this section of tagged fields
pub record IsAround (form : Form) (bytes text section : List ℕ) (v : TxnValue) : Type 0 where
  pub head : FitsHead v
  pub tail : FitsTail v
  pub tagged : IsSectionText form section
  pub parts : bytes ≡ i16_text (version_of form) ++ (head_text v ++ (text ++ (i64_text v.last_update ++ (i64_text v.start ++ section))))

-- the text that is written for these partitions
pub record IsSetText (form : Form) (text : List ℕ) (partitions : List TopicPartitions) : Type 0 where
  pub fits : fits_partitions form partitions ≡ true
  pub numbers : All FitNumbers partitions
  pub is : text ≡ partitions_text form partitions
