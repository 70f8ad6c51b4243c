-- A number of one byte.
use Rattle.std.proofs.Common.{◌≡◌, ℕ, ◌/◌, ◌%◌, ◌<◌, pos, List, [], ◌∷◌, length, get_or, Some, refl, arith}
use Rattle.std.proofs.lemmas.Bool.{lt-ltb}
use Rattle.eos_wire.specs.Varint.{groups_at, varint_at, varlong_at}

pub small_varint : (bytes : List ℕ) → 0 < length bytes → get_or bytes 0 0 < 128 → get_or bytes 0 0 % 2 ≡ 0 → varint_at bytes ≡ Some (pos (get_or bytes 0 0 / 2), 1)
unfolding varint_at groups_at
small_varint [] some lt even = absurd (omega arith)
small_varint (b ∷ bs) some lt even = rw (lt-ltb b 128 lt, even) refl

pub small_varlong : (bytes : List ℕ) → 0 < length bytes → get_or bytes 0 0 < 128 → get_or bytes 0 0 % 2 ≡ 0 → varlong_at bytes ≡ Some (pos (get_or bytes 0 0 / 2), 1)
unfolding varlong_at groups_at
small_varlong [] some lt even = absurd (omega arith)
small_varlong (b ∷ bs) some lt even = rw (lt-ltb b 128 lt, even) refl
