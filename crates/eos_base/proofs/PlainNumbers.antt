-- What a text reads as, where numbers below a limit are wanted.
use Rattle.std.proofs.Common.{◌≡◌, ℕ, ◌<◌, ◌≤◌, ◌^◌, List, true, false, nat_lt, None, Some, refl, arith}
use Rattle.std.proofs.Math.Nat.{pow-le-pow_right}
use Rattle.std.proofs.lemmas.Bool.Decides.{nat_tests}
use Rattle.std.specs.Str.Parse.{digits_value}
use Rattle.eos_base.specs.Decimals.{is_numeral, number_below}

pub number_no : (limit : ℕ) (text : List ℕ) → is_numeral text ≡ false → number_below limit text ≡ None
unfolding number_below
number_no limit text no_numeral = rw no_numeral refl

pub number_past : (limit : ℕ) (text : List ℕ) → is_numeral text ≡ true → limit ≤ digits_value 10 text → number_below limit text ≡ None
unfolding number_below
number_past limit text numeral past =
    let large : nat_lt (digits_value 10 text) limit ≡ false = grind (arith, nat_tests, past) in
    rw (numeral, large) refl

pub number_is : (limit : ℕ) (text : List ℕ) → is_numeral text ≡ true → digits_value 10 text < limit → number_below limit text ≡ Some (digits_value 10 text)
unfolding number_below
number_is limit text numeral small =
    let fits : nat_lt (digits_value 10 text) limit ≡ true = grind (arith, nat_tests, small) in
    rw (numeral, fits) refl

-- what fewer than 20 digits write
pub few_digits : (k : ℕ) → k ≤ 19 → 10 ^ k ≤ 10 ^ 19
few_digits k h =
    let some : 0 < 10 = omega arith in
    pow-le-pow_right some h
