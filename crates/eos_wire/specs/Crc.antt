-- CRC-32C, the checksum of a record batch (Kafka's documentation, Message Format: "CRC-32C (Castagnoli) polynomial";
-- RFC 3720, appendix B.4): the remainder of a division of polynomials, taken one bit at a time.
-- The least bit of the register stands for the highest power, so the polynomial 0x1edc6f41 reads 0x82f63b78.
use Rattle.std.specs.Prelude.{ℕ, zero, suc, ◌/◌, ◌%◌, List, [], ◌∷◌, bit_xor, ◌==◌, if◌then◌else◌}

-- a step to the next bit: where the bit that leaves is 1, the polynomial is taken away
abbrev pub after_bit : ℕ → ℕ
after_bit register = if register % 2 == 1 then bit_xor (register / 2) 0x82f6_3b78 else register / 2

unfoldable pub after_bits : ℕ → ℕ → ℕ
after_bits zero register = register
after_bits (suc n) register = after_bits n (after_bit register)

-- a byte goes in, and its eight bits are divided
abbrev pub after_byte : ℕ → ℕ → ℕ
after_byte register byte = after_bits 8 (bit_xor register byte)

unfoldable pub remainder : ℕ → List ℕ → ℕ
remainder register [] = register
remainder register (byte ∷ bytes) = remainder (after_byte register byte) bytes

-- all bits are set at the start, and turned at the end
abbrev pub crc32c_of : List ℕ → ℕ
crc32c_of bytes = bit_xor (remainder 0xffff_ffff bytes) 0xffff_ffff
