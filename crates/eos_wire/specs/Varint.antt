-- Variable-length numbers, in groups of seven bits, the least group first.
-- Kafka's protocol guide, VARINT and VARLONG: the "variable-length zig-zag encoding from Google Protocol Buffers", which
-- stands in the records of Message Format version 2. The unsigned form, without zigzag, is that of KIP-482.
use Rattle.std.specs.Prelude.{◌≡◌, ℕ, zero, suc, ◌+◌, ◌-◌, ◌*◌, ◌/◌, ◌%◌, ◌^◌, ◌<◌, ◌≤◌, ◌↔◌, ℤ, pos, negsuc, List, [], ◌∷◌, length, take, Option, Some, None, option_map, nat_lt, ◌==◌, if◌then◌else◌}

-- a last group, or a group that goes on (its high bit is set) and then a spelling
abbrev pub IsGroups : List ℕ → ℕ → Type 0
IsGroups [] n = ⊥
IsGroups (b ∷ []) n = (b < 128) × (n ≡ b)
IsGroups (b ∷ c ∷ bs) n = (128 ≤ b) × (b < 256) × (high : ℕ) × (n + 128 ≡ b + 128 * high) × IsGroups (c ∷ bs) high

-- even numbers stand for 0, 1, 2 and so on, odd ones for -1, -2 and so on
abbrev pub unzigzag : ℕ → ℤ
unzigzag n = if n % 2 == 0 then pos (n / 2) else negsuc (n / 2)

-- longer spellings than the shortest are read, as long as the number fits: the fifth byte is then at most 0x0f
abbrev pub IsVarint : List ℕ → ℤ → Type 0
IsVarint text z = (n : ℕ) × IsGroups text n × (length text ≤ 5) × (n < 2 ^ 32) × (z ≡ unzigzag n)

-- likewise, the tenth byte is at most 0x01
abbrev pub IsVarlong : List ℕ → ℤ → Type 0
IsVarlong text z = (n : ℕ) × IsGroups text n × (length text ≤ 10) × (n < 2 ^ 64) × (z ≡ unzigzag n)

abbrev pub IsUvarint : List ℕ → ℕ → Type 0
IsUvarint text n = IsGroups text n × (length text ≤ 5) × (n < 2 ^ 32)

-- a value and a length are read exactly where that many bytes at the front are a text of the value
abbrev pub ReadsFront : {X : Type 0} → (List ℕ → X → Type 0) → List ℕ → Option (X × ℕ) → Type 0
ReadsFront {X} IsText bytes read = (x : X) (k : ℕ) → (read ≡ Some (x, k)) ↔ ((k ≤ length bytes) × IsText (take k bytes) x)

-- ---- reading: the number at the front and how many bytes it takes

abbrev pub with_group : ℕ → Option (ℕ × ℕ) → Option (ℕ × ℕ)
with_group group None = None
with_group group (Some found) = Some (group + 128 * found.0, found.1 + 1)

-- in at most so many groups, of which the last possible one is at most `top`
unfoldable pub groups_at : ℕ → ℕ → List ℕ → Option (ℕ × ℕ)
groups_at most top [] = None
groups_at zero top (b ∷ bs) = None
groups_at (suc zero) top (b ∷ bs) = if nat_lt top b then None else Some (b, 1)
groups_at (suc (suc k)) top (b ∷ bs) = if nat_lt b 128 then Some (b, 1) else with_group (b - 128) (groups_at (suc k) top bs)

abbrev pub with_sign : ℕ × ℕ → ℤ × ℕ
with_sign found = (unzigzag found.0, found.1)

unfoldable pub varint_at : List ℕ → Option (ℤ × ℕ)
varint_at bytes = option_map with_sign (groups_at 5 15 bytes)

unfoldable pub varlong_at : List ℕ → Option (ℤ × ℕ)
varlong_at bytes = option_map with_sign (groups_at 10 1 bytes)

unfoldable pub uvarint_at : List ℕ → Option (ℕ × ℕ)
uvarint_at bytes = groups_at 5 15 bytes
