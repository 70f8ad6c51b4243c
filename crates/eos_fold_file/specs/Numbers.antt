-- The numbers and texts of a fold file. A number is a varlong in its shortest spelling (Kafka's protocol guide, VARLONG), so small
-- ones take a byte, of either sign; an unsigned one of 64 bits is the signed one with the same bits. A text is the number of its
-- bytes, and the bytes. A kind is an INT8.
use Rattle.std.specs.Prelude.{ℕ, zero, suc, ◌-◌, ◌^◌, ℤ, pos, negsuc, List, [], ◌∷◌, ◌++◌, length, drop, Option, Some, None, Result, Ok, Err, Bool, nat_lt, int_le, ◌==◌, ◌&&◌, ◌||◌, not, slice_index, if◌then◌else◌}
use Rattle.std.specs.Int.{w64, cast_signed, cast_unsigned}
use Rattle.eos_wire.specs.Numbers.{bytes_at, i8_at}
use Rattle.eos_wire.specs.Varint.{varlong_at}
use Rattle.eos_wire.specs.Writing.{varlong_of}
use Rattle.eos_base.specs.Fallible.{◌>>=◌, or_fault, must}
use Rattle.eos_fold_file.specs.declared.fault.FoldFault.{FoldFault}
use Rattle.eos_fold_file.specs.declared.fault.FoldFault.TheVariants as faults

-- a field at the front; bytes that run out are Short
abbrev pub present : {X : Type 0} → Option X → Result X FoldFault
present = or_fault faults.Short

-- ---- what is written

abbrev pub u64_text : ℕ → List ℕ
u64_text n = varlong_of (cast_signed w64 n)

abbrev pub bytes_text : List ℕ → List ℕ
bytes_text bytes = varlong_of (pos (length bytes)) ++ bytes

-- ---- reading

-- a kind
abbrev pub kind_from : List ℕ → Result (ℤ × List ℕ) FoldFault
kind_from bytes = present (i8_at bytes)

-- a spelling of so many bytes at the front is the shortest: it is one byte, or its last group is not 0
abbrev pub is_shortest : List ℕ → ℕ → Bool
is_shortest bytes len = (len == 1) || not (slice_index bytes (len - 1) == 0)

-- A number that isn't finished within ten bytes is no number; where fewer are left, the bytes run out.
abbrev pub found_from : List ℕ → Option (ℤ × ℕ) → Result (ℤ × List ℕ) FoldFault
found_from bytes None = Err (if nat_lt (length bytes) 10 then faults.Short else faults.Number)
found_from bytes (Some found) = must (is_shortest bytes found.1) faults.Number (found.0, drop found.1 bytes)

unfoldable pub number_from : List ℕ → Result (ℤ × List ℕ) FoldFault
number_from bytes = found_from bytes (varlong_at bytes)

-- a number from this one to that one
unfoldable pub within_from : ℤ → ℤ → List ℕ → Result (ℤ × List ℕ) FoldFault
within_from low high bytes = do
  number ← number_from bytes
  must (int_le low number.0 && int_le number.0 high) faults.Number number

abbrev pub i32_from : List ℕ → Result (ℤ × List ℕ) FoldFault
i32_from = within_from (negsuc 0x7fff_ffff) (pos 0x7fff_ffff)

abbrev pub i16_from : List ℕ → Result (ℤ × List ℕ) FoldFault
i16_from = within_from (negsuc 0x7fff) (pos 0x7fff)

unfoldable pub u64_from : List ℕ → Result (ℕ × List ℕ) FoldFault
u64_from bytes = do
  number ← number_from bytes
  Ok (cast_unsigned w64 number.0, number.1)

unfoldable pub u32_from : List ℕ → Result (ℕ × List ℕ) FoldFault
u32_from bytes = do
  number ← u64_from bytes
  must (nat_lt number.0 (2 ^ 32)) faults.Number number

-- that many bytes
abbrev pub counted_from : ℤ × List ℕ → Result (List ℕ × List ℕ) FoldFault
counted_from (pos n, bytes) = present (bytes_at n bytes)
counted_from (negsuc n, bytes) = Err faults.Number

unfoldable pub bytes_from : List ℕ → Result (List ℕ × List ℕ) FoldFault
bytes_from bytes = number_from bytes >>= counted_from

-- so many, one after the other
unfoldable pub many_from : {X : Type 0} → (List ℕ → Result (X × List ℕ) FoldFault) → ℕ → List ℕ → Result (List X × List ℕ) FoldFault
many_from read zero bytes = Ok ([], bytes)
many_from read (suc n) bytes = do
  first ← read bytes
  others ← many_from read n first.1
  Ok (first.0 ∷ others.0, others.1)
