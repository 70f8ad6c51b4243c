-- Numbers of a fixed width, as Kafka's protocol writes them: INT8 to INT64 and UINT32, in two's complement, big-endian
-- (Kafka's protocol guide, Protocol Primitive Types).
use Rattle.std.specs.Prelude.{ℕ, ◌<◌, ℤ, List, length, take, drop, Option, Some, None, slice_index, nat_lt, if◌then◌else◌}
use Rattle.std.specs.Int.{w8, w16, w32, w64, cast_signed, cast_unsigned, from_be_bytes, to_be_bytes}

abbrev pub IsBytes : List ℕ → Type 0
IsBytes bytes = (i : ℕ) → slice_index bytes i < 256

-- ---- the text of a number

unfoldable pub i8_text : ℤ → List ℕ
i8_text z = to_be_bytes w8 (cast_unsigned w8 z)

unfoldable pub i16_text : ℤ → List ℕ
i16_text z = to_be_bytes w16 (cast_unsigned w16 z)

unfoldable pub i32_text : ℤ → List ℕ
i32_text z = to_be_bytes w32 (cast_unsigned w32 z)

unfoldable pub i64_text : ℤ → List ℕ
i64_text z = to_be_bytes w64 (cast_unsigned w64 z)

unfoldable pub u32_text : ℕ → List ℕ
u32_text n = to_be_bytes w32 n

-- ---- reading: what stands at the front, and the bytes after it

abbrev pub bytes_at : ℕ → List ℕ → Option (List ℕ × List ℕ)
bytes_at n bytes = if nat_lt (length bytes) n then None else Some (take n bytes, drop n bytes)

abbrev pub number_at : {X : Type 0} → ℕ → (List ℕ → X) → List ℕ → Option (X × List ℕ)
number_at n value bytes = if nat_lt (length bytes) n then None else Some (value (take n bytes), drop n bytes)

unfoldable pub i8_at : List ℕ → Option (ℤ × List ℕ)
i8_at bytes = number_at 1 (λ text. cast_signed w8 (from_be_bytes w8 text)) bytes

unfoldable pub i16_at : List ℕ → Option (ℤ × List ℕ)
i16_at bytes = number_at 2 (λ text. cast_signed w16 (from_be_bytes w16 text)) bytes

unfoldable pub i32_at : List ℕ → Option (ℤ × List ℕ)
i32_at bytes = number_at 4 (λ text. cast_signed w32 (from_be_bytes w32 text)) bytes

unfoldable pub i64_at : List ℕ → Option (ℤ × List ℕ)
i64_at bytes = number_at 8 (λ text. cast_signed w64 (from_be_bytes w64 text)) bytes

unfoldable pub u32_at : List ℕ → Option (ℕ × List ℕ)
u32_at bytes = number_at 4 (λ text. from_be_bytes w32 text) bytes
