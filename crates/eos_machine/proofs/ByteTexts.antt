-- Texts of bytes, and that their checksum fits its field.
use Rattle.std.proofs.Common.{◌≡◌, ℕ, zero, suc, ◌/◌, ◌%◌, ◌^◌, ◌<◌, ◌==◌, Bool, true, false, ℤ, List, [], ◌∷◌, arith, get_or, bit_xor, nat_lt, if◌then◌else◌}
use Rattle.std.specs.List.{list_all}
use Rattle.std.specs.Cmp.{first_so, second_so}
use Rattle.std.specs.Int.{byte_at, bytes_high_first, cast_unsigned, w8, w16, w32, w64}
use Rattle.std.proofs.Math.Nat.{mod-lt}
use Rattle.std.proofs.lemmas.Bool.{ltb-true}
use Rattle.std.proofs.lemmas.Nat.{xor_lt}
use Rattle.eos_wire.specs.Crc.{after_bit, after_bits, after_byte, remainder, crc32c_of}
use Rattle.eos_wire.specs.Numbers.{IsBytes, i8_text, i16_text, i32_text, i64_text}
use Rattle.eos_wire.specs.Writing.{uvarint_of}
use Rattle.eos_wire.proofs.Spellings.{uvarint_shortest, IsUvarint-bytes}

pub no_bytes : IsBytes []
no_bytes = λ i. omega arith

pub one_more : (b : ℕ) (bs : List ℕ) → b < 256 → IsBytes bs → IsBytes (b ∷ bs)
one_more b bs l h = λ i. at i
  where
    at : (i : ℕ) → get_or (b ∷ bs) i 0 < 256
    at zero = l
    at (suc i) = h i

-- of a text that is written out
pub known_bytes : (xs : List ℕ) → list_all (λ b. nat_lt b 256) xs ≡ true → IsBytes xs
known_bytes [] h = no_bytes
known_bytes (x ∷ xs) h =
    one_more x xs (ltb-true x 256 (first_so (nat_lt x 256) (list_all (λ b. nat_lt b 256) xs) h)) (known_bytes xs (second_so (nat_lt x 256) (list_all (λ b. nat_lt b 256) xs) h))

-- ---- numbers

byte_small : (k n : ℕ) → byte_at k n < 256
byte_small zero n = mod-lt n (omega arith)
byte_small (suc k) n = mod-lt (n / 256 ^ suc k) (omega arith)

number_bytes : (k n : ℕ) → IsBytes (bytes_high_first k n)
number_bytes zero n = no_bytes
number_bytes (suc k) n = one_more (byte_at k n) (bytes_high_first k n) (byte_small k n) (number_bytes k n)

pub i8_bytes : (z : ℤ) → IsBytes (i8_text z)
unfolding i8_text
i8_bytes z = number_bytes 1 (cast_unsigned w8 z)

pub i16_bytes : (z : ℤ) → IsBytes (i16_text z)
unfolding i16_text
i16_bytes z = number_bytes 2 (cast_unsigned w16 z)

pub i32_bytes : (z : ℤ) → IsBytes (i32_text z)
unfolding i32_text
i32_bytes z = number_bytes 4 (cast_unsigned w32 z)

pub i64_bytes : (z : ℤ) → IsBytes (i64_text z)
unfolding i64_text
i64_bytes z = number_bytes 8 (cast_unsigned w64 z)

pub uvarint_bytes : (n : ℕ) → n < 2 ^ 32 → IsBytes (uvarint_of n)
uvarint_bytes n l = let s = uvarint_shortest n l in IsUvarint-bytes (uvarint_of n) n s.0

-- ---- the checksum

bit_small : (r : ℕ) → r < 2 ^ 32 → after_bit r < 2 ^ 32
bit_small r l = by (r % 2 == 1)
  where
    by : (t : Bool) → (if t then bit_xor (r / 2) 0x82f6_3b78 else r / 2) < 2 ^ 32
    by true = xor_lt 32 (r / 2) 0x82f6_3b78 (omega (arith, l)) (omega arith)
    by false = omega (arith, l)

bits_small : (n r : ℕ) → r < 2 ^ 32 → after_bits n r < 2 ^ 32
unfolding after_bits
bits_small zero r l = l
bits_small (suc n) r l = bits_small n (after_bit r) (bit_small r l)

register_small : (bytes : List ℕ) (r : ℕ) → IsBytes bytes → r < 2 ^ 32 → remainder r bytes < 2 ^ 32
unfolding remainder
register_small [] r h l = l
register_small (b ∷ bs) r h l = register_small bs (after_byte r b) (λ i. h (suc i)) (bits_small 8 (bit_xor r b) (xor_lt 32 r b l (small (h 0))))
  where
    small : b < 256 → b < 2 ^ 32
    small k = omega (arith, k)

pub checksum_small : (bytes : List ℕ) → IsBytes bytes → crc32c_of bytes < 2 ^ 32
checksum_small bytes h = xor_lt 32 (remainder 0xffff_ffff bytes) 0xffff_ffff (register_small bytes 0xffff_ffff h (omega arith)) (omega arith)
