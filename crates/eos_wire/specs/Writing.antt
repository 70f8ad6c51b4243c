-- The shortest spelling of a variable-length number, which is what is written.
-- Kafka's protocol guide, VARINT and VARLONG; KIP-482, unsigned varints.
use Rattle.std.specs.Prelude.{ℕ, zero, suc, ◌+◌, ◌*◌, ◌/◌, ◌%◌, ◌≤◌, ℤ, pos, negsuc, List, [], ◌∷◌, length, nat_lt, if◌then◌else◌}

-- 0, 1, 2 and so on as even numbers, -1, -2 and so on as odd ones
abbrev pub zigzag : ℤ → ℕ
zigzag (pos n) = 2 * n
zigzag (negsuc n) = 2 * n + 1

-- in as few groups as it takes, of at most so many and one more
unfoldable pub groups_of : ℕ → ℕ → List ℕ
groups_of zero n = n ∷ []
groups_of (suc k) n = if nat_lt n 128 then n ∷ [] else (n % 128 + 128) ∷ groups_of k (n / 128)

unfoldable pub varint_of : ℤ → List ℕ
varint_of z = groups_of 4 (zigzag z)

unfoldable pub varlong_of : ℤ → List ℕ
varlong_of z = groups_of 9 (zigzag z)

unfoldable pub uvarint_of : ℕ → List ℕ
uvarint_of n = groups_of 4 n

-- a text of the value, and none is shorter
abbrev pub IsShortest : {X : Type 0} → (List ℕ → X → Type 0) → List ℕ → X → Type 0
IsShortest IsText text x = IsText text x × ((other : List ℕ) → IsText other x → length text ≤ length other)
