-- Reading a field of one of Kafka's messages from left to right, with the first fault that is met: Short where the bytes run out,
-- Length where a length or count may not stand there (Kafka's protocol guide; KIP-482 for the flexible form).
use Rattle.std.specs.Prelude.{ℕ, zero, suc, ℤ, pos, negsuc, List, [], ◌∷◌, length, Option, Some, None, Result, Ok, Err, nat_lt, if◌then◌else◌, ⊤}
use Rattle.eos_wire.specs.Numbers.{bytes_at, i16_at, i32_at}
use Rattle.eos_wire.specs.Varint.{uvarint_at}
use Rattle.eos_wire.specs.Fields.{with_rest}
use Rattle.eos_base.specs.Fallible.{◌>>=◌}
use Rattle.eos_base.specs.Records.{present, skipped}
use Rattle.eos_base.specs.declared.record_fault.RecordFault.{RecordFault}
use Rattle.eos_base.specs.declared.record_fault.RecordFault.TheVariants as faults
use Rattle.eos_wire.specs.declared.form.Form.{Form}
use Rattle.eos_wire.specs.declared.form.Form.TheVariants.{Plain, Flexible}

-- a fault that a field can have
abbrev pub IsOfField : RecordFault → Type 0
IsOfField faults.Short = ⊤
IsOfField faults.Length = ⊤
IsOfField faults.Version = ⊥
IsOfField faults.Status = ⊥
IsOfField faults.Trailing = ⊥
IsOfField faults.OutOfMemory = ⊥

-- ---- numbers

-- A varint that is not finished within five bytes is too long; where fewer are left, the bytes run out.
abbrev pub unfinished : List ℕ → RecordFault
unfinished bytes = if nat_lt (length bytes) 5 then faults.Short else faults.Length

abbrev pub finished : List ℕ → Option (ℕ × List ℕ) → Result (ℕ × List ℕ) RecordFault
finished bytes None = Err (unfinished bytes)
finished bytes (Some read) = Ok read

unfoldable pub uvarint_from : List ℕ → Result (ℕ × List ℕ) RecordFault
uvarint_from bytes = finished bytes (with_rest bytes (uvarint_at bytes))

-- ---- lengths: null, a length below 0 and a varint that is too long are Length

abbrev pub length_from_signed : ℤ × List ℕ → Result (ℕ × List ℕ) RecordFault
length_from_signed (pos n, rest) = Ok (n, rest)
length_from_signed (negsuc n, rest) = Err faults.Length

abbrev pub length_from_unsigned : ℕ × List ℕ → Result (ℕ × List ℕ) RecordFault
length_from_unsigned (zero, rest) = Err faults.Length
length_from_unsigned (suc n, rest) = Ok (n, rest)

-- the length of a text
unfoldable pub length_from : Form → List ℕ → Result (ℕ × List ℕ) RecordFault
length_from Plain bytes = do
  number ← present (i16_at bytes)
  length_from_signed number
length_from Flexible bytes = do
  number ← uvarint_from bytes
  length_from_unsigned number

abbrev pub count_from_signed : ℤ × List ℕ → Result (Option ℕ × List ℕ) RecordFault
count_from_signed (pos n, rest) = Ok (Some n, rest)
count_from_signed (negsuc zero, rest) = Ok (None, rest)
count_from_signed (negsuc (suc n), rest) = Err faults.Length

abbrev pub count_from_unsigned : ℕ × List ℕ → Option ℕ × List ℕ
count_from_unsigned (zero, rest) = (None, rest)
count_from_unsigned (suc n, rest) = (Some n, rest)

-- the count of a list, or null
unfoldable pub count_from : Form → List ℕ → Result (Option ℕ × List ℕ) RecordFault
count_from Plain bytes = do
  number ← present (i32_at bytes)
  count_from_signed number
count_from Flexible bytes = do
  number ← uvarint_from bytes
  Ok (count_from_unsigned number)

-- ---- texts and lists

unfoldable pub string_from : Form → List ℕ → Result (List ℕ × List ℕ) RecordFault
string_from form bytes = do
  len ← length_from form bytes
  present (bytes_at len.0 len.1)

-- so many, one after the other
unfoldable pub many_from : {X : Type 0} → (List ℕ → Result (X × List ℕ) RecordFault) → ℕ → List ℕ → Result (List X × List ℕ) RecordFault
many_from read zero bytes = Ok ([], bytes)
many_from read (suc n) bytes = do
  first ← read bytes
  others ← many_from read n first.1
  Ok (first.0 ∷ others.0, others.1)

-- ---- tagged fields

unfoldable pub tagged_from : List ℕ → Result ((ℕ × List ℕ) × List ℕ) RecordFault
tagged_from bytes = do
  tag ← uvarint_from bytes
  size ← uvarint_from tag.1
  content ← present (bytes_at size.0 size.1)
  Ok ((tag.0, content.0), content.1)

-- the fields of a section are skipped
unfoldable pub section_from : Form → List ℕ → Result (Unit {0} × List ℕ) RecordFault
section_from Plain bytes = Ok (tt, bytes)
section_from Flexible bytes = do
  count ← uvarint_from bytes
  skipped (many_from tagged_from count.0 count.1)
