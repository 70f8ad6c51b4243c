-- The bytes that are written for a field, and what fits its length field. The choices of the writer: numbers in their shortest
-- spelling, and no tagged fields (Kafka's protocol guide; KIP-482 for the flexible form).
use Rattle.std.specs.Prelude.{ℕ, ◌+◌, ◌^◌, pos, Bool, List, [], ◌++◌, length, nat_lt}
use Rattle.eos_wire.specs.Numbers.{i16_text, i32_text}
use Rattle.eos_wire.specs.Writing.{uvarint_of}
use Rattle.eos_wire.specs.declared.form.Form.{Form}
use Rattle.eos_wire.specs.declared.form.Form.TheVariants.{Plain, Flexible}

-- ---- lengths

abbrev pub fits_length : Form → ℕ → Bool
fits_length Plain n = nat_lt n (2 ^ 15)
fits_length Flexible n = nat_lt (n + 1) (2 ^ 32)

abbrev pub fits_count : Form → ℕ → Bool
fits_count Plain n = nat_lt n (2 ^ 31)
fits_count Flexible n = nat_lt (n + 1) (2 ^ 32)

abbrev pub length_text : Form → ℕ → List ℕ
length_text Plain n = i16_text (pos n)
length_text Flexible n = uvarint_of (n + 1)

abbrev pub count_text : Form → ℕ → List ℕ
count_text Plain n = i32_text (pos n)
count_text Flexible n = uvarint_of (n + 1)

-- a section without a field
abbrev pub section_text : Form → List ℕ
section_text Plain = []
section_text Flexible = uvarint_of 0

-- ---- texts

abbrev pub string_text : Form → List ℕ → List ℕ
string_text form bytes = length_text form (length bytes) ++ bytes
