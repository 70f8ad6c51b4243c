-- A kind, and a number of few bytes.
use Rattle.std.proofs.Common.{◌≡◌, ◌≢◌, ℕ, ◌+◌, ◌-◌, ◌*◌, ◌<◌, ◌≤◌, ℤ, List, [], ◌∷◌, length, drop, get_or, ltb, false, Ok, Err, refl, arith}
use Rattle.std.specs.Int.{w8, cast_signed}
use Rattle.std.proofs.lemmas.Bool.{lt-ltb, le-ltb, ne_eqb}
use Rattle.eos_wire.specs.Numbers.{i8_at}
use Rattle.eos_wire.specs.Varint.{unzigzag, varlong_at, groups_at}
use Rattle.eos_wire.specs.Writing.{zigzag, varlong_of, groups_of}
use Rattle.eos_fold_file.specs.declared.fault.FoldFault.TheVariants as faults
use Rattle.eos_fold_file.specs.Numbers.{kind_from, number_from}

pub no_kind : (bytes : List ℕ) → length bytes ≡ 0 → kind_from bytes ≡ Err faults.Short
unfolding i8_at
no_kind [] none = refl
no_kind (b ∷ bs) none = absurd (omega (arith, none))

pub kind_read : (bytes : List ℕ) → 0 < length bytes → kind_from bytes ≡ Ok (cast_signed w8 (get_or bytes 0 0), drop 1 bytes)
unfolding i8_at
kind_read [] some = absurd (omega arith)
kind_read (b ∷ bs) some = let one : ltb (length (b ∷ bs)) 1 ≡ false = le-ltb (length (b ∷ bs)) 1 (omega arith) in rw one refl

pub one_read : (bytes : List ℕ) → 3 ≤ length bytes → get_or bytes 0 0 < 128 → number_from bytes ≡ Ok (unzigzag (get_or bytes 0 0), drop 1 bytes)
unfolding number_from varlong_at groups_at
one_read [] some lt = absurd (omega arith)
one_read (b ∷ bs) some lt = rw (lt-ltb b 128 lt) refl

pub two_read : (bytes : List ℕ) → 3 ≤ length bytes → 128 ≤ get_or bytes 0 0 → get_or bytes 1 0 < 128 → get_or bytes 1 0 ≢ 0
    → number_from bytes ≡ Ok (unzigzag (get_or bytes 0 0 - 128 + 128 * get_or bytes 1 0), drop 2 bytes)
unfolding number_from varlong_at groups_at
two_read [] some ge lt more = absurd (omega arith)
two_read (b ∷ []) some ge lt more = absurd (omega arith)
two_read (b ∷ c ∷ bs) some ge lt more = rw (le-ltb b 128 ge, lt-ltb c 128 lt, ne_eqb c 0 more) refl

pub three_read : (bytes : List ℕ) → 3 ≤ length bytes → 128 ≤ get_or bytes 0 0 → 128 ≤ get_or bytes 1 0 → get_or bytes 2 0 < 128 → get_or bytes 2 0 ≢ 0
    → number_from bytes ≡ Ok (unzigzag (get_or bytes 0 0 - 128 + 128 * (get_or bytes 1 0 - 128 + 128 * get_or bytes 2 0)), drop 3 bytes)
unfolding number_from varlong_at groups_at
three_read [] some ge ge_two lt more = absurd (omega arith)
three_read (b ∷ []) some ge ge_two lt more = absurd (omega arith)
three_read (b ∷ c ∷ []) some ge ge_two lt more = absurd (omega arith)
three_read (b ∷ c ∷ d ∷ bs) some ge ge_two lt more = rw (le-ltb b 128 ge, le-ltb c 128 ge_two, lt-ltb d 128 lt, ne_eqb d 0 more) refl

pub small_written : (z : ℤ) → zigzag z < 128 → varlong_of z ≡ zigzag z ∷ []
unfolding varlong_of groups_of
small_written z lt = rw (lt-ltb (zigzag z) 128 lt) refl
