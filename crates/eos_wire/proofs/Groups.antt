-- Groups read one after the other, as a loop does.
use Rattle.std.proofs.Common.{◌≡◌, ℕ, zero, suc, ◌+◌, ◌-◌, ◌*◌, ◌%◌, ◌^◌, ◌<◌, ◌≤◌, true, false, cond, List, [], ◌∷◌, length, get_or, drop, Option, Some, None, refl, ap, ◌∙◌, arith, inl, inr}
use Rattle.std.specs.Prelude.{nat_lt}
use Rattle.std.proofs.lemmas.Bool.{lt-ltb, le-ltb, cases_lt}
use Rattle.std.proofs.lemmas.Nat.{shl_whole, mul-le, pow_below}
use Rattle.std.proofs.Math.Nat.{one-le-pow}
use Rattle.std.proofs.lemmas.List.{drop_more}
use Rattle.std.proofs.lemmas.Nat.{pow-add}
use Rattle.eos_wire.specs.Numbers.{IsBytes}
use Rattle.eos_wire.specs.Varint.{with_group, groups_at}
use Rattle.eos_wire.specs.steps.Varint.{FitsWord}

-- what was read before, and what is still read
abbrev pub shifted : ℕ → ℕ → Option (ℕ × ℕ) → Option (ℕ × ℕ)
shifted v i None = None
shifted v i (Some found) = Some (v + 2 ^ (7 * i) * found.0, i + found.1)

pub placed_whole : (group place : ℕ) → group < 128 → (place ≡ 9 → group ≤ 1) → place ≤ 9 → (group * 2 ^ (7 * place)) % 2 ^ 64 ≡ group * 2 ^ (7 * place)
placed_whole group place small last le =
    elim (cases_lt place 9) [
      | inl l ↦ shl_whole group 7 (7 * place) 64 (omega arith) (omega arith)
      | inr r ↦ let e : place ≡ 9 = omega arith in shl_whole group 1 (7 * place) 64 (let w = last e in omega arith) (omega arith)
    ]

pub power : (i : ℕ) → 2 ^ (7 * (i + 1)) ≡ 2 ^ (7 * i) * 128
power i = let e : 7 * (i + 1) ≡ 7 * i + 7 = omega arith in rw e (pow-add 2 (7 * i) 7)

pub out : (v i k top : ℕ) (total : Option (ℕ × ℕ)) → total ≡ shifted v i (groups_at k top []) → total ≡ None
unfolding groups_at
out v i k top total e = e

pub refused : (v i top b : ℕ) (bs : List ℕ) (total : Option (ℕ × ℕ)) → top < b → total ≡ shifted v i (groups_at 1 top (b ∷ bs)) → total ≡ None
unfolding groups_at
refused v i top b bs total lt e = rw (lt-ltb top b lt) at e

pub ended : (v i top b : ℕ) (bs : List ℕ) (total : Option (ℕ × ℕ)) → b ≤ top → total ≡ shifted v i (groups_at 1 top (b ∷ bs)) → total ≡ Some (v + b * 2 ^ (7 * i), i + 1)
unfolding groups_at
ended v i top b bs total le e =
    let f : total ≡ Some (v + 2 ^ (7 * i) * b, i + 1) = rw (le-ltb top b le) at e in
    f ∙ ap (λ (n : ℕ). Some (n, i + 1)) (omega arith)

pub low : (v i k top b : ℕ) (bs : List ℕ) (total : Option (ℕ × ℕ)) → 2 ≤ k → b < 128 → total ≡ shifted v i (groups_at k top (b ∷ bs)) → total ≡ Some (v + b * 2 ^ (7 * i), i + 1)
unfolding groups_at
low v i zero top b bs total le lt e = absurd (omega arith)
low v i (suc zero) top b bs total le lt e = absurd (omega arith)
low v i (suc (suc k)) top b bs total le lt e =
    let f : total ≡ Some (v + 2 ^ (7 * i) * b, i + 1) = rw (lt-ltb b 128 lt) at e in
    f ∙ ap (λ (n : ℕ). Some (n, i + 1)) (omega arith)

two : (v i g : ℕ) (o : Option (ℕ × ℕ)) → shifted v i (with_group g o) ≡ shifted (v + g * 2 ^ (7 * i)) (i + 1) o
two v i g None = refl
two v i g (Some f) =
    let a : v + 2 ^ (7 * i) * (g + 128 * f.0) ≡ v + g * 2 ^ (7 * i) + 2 ^ (7 * (i + 1)) * f.0 = rw (power i) (omega arith) in
    let b : i + (f.1 + 1) ≡ i + 1 + f.1 = omega arith in
    ap (λ (x : ℕ × ℕ). Some x) (rw (a, b) refl)

pub more : (v i k top b : ℕ) (bs : List ℕ) (total : Option (ℕ × ℕ)) → 2 ≤ k → 128 ≤ b → total ≡ shifted v i (groups_at k top (b ∷ bs)) → total ≡ shifted (v + (b - 128) * 2 ^ (7 * i)) (i + 1) (groups_at (k - 1) top bs)
unfolding groups_at
more v i zero top b bs total le ge e = absurd (omega arith)
more v i (suc zero) top b bs total le ge e = absurd (omega arith)
more v i (suc (suc k)) top b bs total le ge e =
    let n : suc (suc k) - 1 ≡ suc k = omega arith in
    let f : total ≡ shifted v i (with_group (b - 128) (groups_at (suc k) top bs)) = rw (le-ltb b 128 ge) at e in
    rw n (f ∙ two v i (b - 128) (groups_at (suc k) top bs))

-- the number takes some of the bytes
abbrev pub IsWithin : ℕ → Option (ℕ × ℕ) → Type 0
IsWithin n None = Unit {0}
IsWithin n (Some found) = found.1 ≤ n

pub some_bytes : (k top : ℕ) (bytes : List ℕ) → IsWithin (length bytes) (groups_at k top bytes)
unfolding groups_at
some_bytes k top [] = tt
some_bytes zero top (b ∷ bs) = tt
some_bytes (suc zero) top (b ∷ bs) = elim (nat_lt top b) as (λ t. IsWithin (suc (length bs)) (cond t None (Some (b, 1)))) [ true ↦ tt | false ↦ omega arith ]
some_bytes (suc (suc k)) top (b ∷ bs) =
    elim (nat_lt b 128) as (λ t. IsWithin (suc (length bs)) (cond t (Some (b, 1)) (with_group (b - 128) (groups_at (suc k) top bs)))) [
      | true ↦ omega arith
      | false ↦ more_bytes (groups_at (suc k) top bs) (some_bytes (suc k) top bs)
    ]
  where
    more_bytes : (o : Option (ℕ × ℕ)) → IsWithin (length bs) o → IsWithin (suc (length bs)) (with_group (b - 128) o)
    more_bytes None h = tt
    more_bytes (Some f) h = omega (arith, h)

-- ---- at a byte of the list

pub here : (v i k top : ℕ) (bytes : List ℕ) (total : Option (ℕ × ℕ)) → i < length bytes → total ≡ shifted v i (groups_at k top (drop i bytes)) → total ≡ shifted v i (groups_at k top (get_or bytes i 0 ∷ drop (i + 1) bytes))
here v i k top bytes total lt e = e ∙ ap (λ (xs : List ℕ). shifted v i (groups_at k top xs)) (drop_more bytes i 0 lt)

pub small_low : (v i g : ℕ) → v < 2 ^ (7 * i) → g < 128 → v + g * 2 ^ (7 * i) < 2 ^ (7 * (i + 1))
small_low v i g small lt = rw (power i) (let m : g * 2 ^ (7 * i) ≤ 127 * 2 ^ (7 * i) = mul-le g (2 ^ (7 * i)) 127 (2 ^ (7 * i)) (omega arith) (omega arith) in omega arith)

pub fits_low : (v i g : ℕ) → v < 2 ^ (7 * i) → g < 128 → i ≤ 8 → v + g * 2 ^ (7 * i) < 2 ^ 64
fits_low v i g small lt le =
    let a = small_low v i g small lt in
    let b : 2 ^ (7 * (i + 1)) < 2 ^ 64 = pow_below (7 * (i + 1)) 64 (omega arith) in
    omega arith

pub fits_last : (v i g most top : ℕ) → v < 2 ^ (7 * i) → g ≤ top → i + 1 ≡ most → FitsWord most top → v + g * 2 ^ (7 * i) < 2 ^ 64
fits_last v i g most top small le e r =
    elim (cases_lt i 9) [
      | inl l ↦ fits_low v i g small (let t = r.small in omega arith) (omega arith)
      | inr h ↦
          let i-is : i ≡ 9 = let f = r.few in omega arith in
          let t : g ≤ 1 = let l = r.last (omega arith) in omega arith in
          let m : g * 2 ^ (7 * i) ≤ 1 * 2 ^ (7 * i) = mul-le g (2 ^ (7 * i)) 1 (2 ^ (7 * i)) t (omega arith) in
          let w : 2 ^ (7 * i) ≡ 2 ^ 63 = rw i-is refl in
          omega arith
    ]

-- ---- how large a number is

abbrev pub IsBelow : ℕ → Option (ℕ × ℕ) → Type 0
IsBelow n None = Unit {0}
IsBelow n (Some found) = found.0 < n

pub times : (t k : ℕ) → (t + 1) * 2 ^ (7 * suc k) ≡ 128 * ((t + 1) * 2 ^ (7 * k))
times t k = let e : suc k ≡ k + 1 = omega arith in rw (e, power k) (omega arith)

at_least : (t k : ℕ) → 128 ≤ (t + 1) * 2 ^ (7 * suc k)
at_least t k =
    let p : 1 ≤ 2 ^ (7 * k) = one-le-pow (7 * k) 2 (omega arith) in
    let m : 1 * 1 ≤ (t + 1) * 2 ^ (7 * k) = mul-le 1 1 (t + 1) (2 ^ (7 * k)) (omega arith) p in
    rw (times t k) (omega (arith, m))

pub groups_below : (k top : ℕ) (bytes : List ℕ) → IsBytes bytes → IsBelow ((top + 1) * 2 ^ (7 * k)) (groups_at (suc k) top bytes)
unfolding groups_at
groups_below k top [] fits = tt
groups_below zero top (b ∷ bs) fits = elim (cases_lt top b) [ inl l ↦ rw (lt-ltb top b l) tt | inr r ↦ rw (le-ltb top b r) (omega arith) ]
groups_below (suc k) top (b ∷ bs) fits =
    elim (cases_lt b 128) [
      | inl l ↦ rw (lt-ltb b 128 l) (let m = at_least top k in omega arith)
      | inr r ↦ rw (le-ltb b 128 r) (more_below ((top + 1) * 2 ^ (7 * k)) ((top + 1) * 2 ^ (7 * suc k)) (groups_at (suc k) top bs) (times top k) (groups_below k top bs (λ i. fits (suc i))))
    ]
  where
    more_below : (m n : ℕ) (o : Option (ℕ × ℕ)) → n ≡ 128 * m → IsBelow m o → IsBelow n (with_group (b - 128) o)
    more_below m n None e h = tt
    more_below m n (Some f) e h = let s : b < 256 = fits 0 in omega (arith, h)
