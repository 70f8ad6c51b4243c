-- Variable-length numbers, in groups of seven bits, the least group first.
-- Kafka's protocol guide, VARINT and VARLONG: the "variable-length zig-zag encoding from Google Protocol Buffers", which
-- stands in the records of Message Format version 2. The unsigned form, without zigzag, is that of KIP-482.
use Rattle.std.specs.Prelude.{◌≡◌, ℕ, ◌<◌, ◌≤◌}

-- so many groups, the last of them at most `top`, fit 64 bits
pub record FitsWord (most top : ℕ) : Type 0 where
  pub some : 1 ≤ most
  pub few : most ≤ 10
  pub small : top < 128
  pub last : most ≡ 10 → top ≤ 1
