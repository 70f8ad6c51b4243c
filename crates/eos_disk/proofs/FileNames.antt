-- What the digits of a file's name read as.
use Rattle.std.proofs.Common.{◌≡◌, ℕ, ◌<◌, ◌≤◌, ◌^◌, ◌&&◌, ◌==◌, List, length, true, false, nat_lt, None, Some, refl, arith}
use Rattle.std.proofs.lemmas.Bool.Decides.{nat_tests}
use Rattle.std.specs.Char.{is_ascii_digit}
use Rattle.std.specs.List.{list_all}
use Rattle.std.specs.Str.Parse.{digits_value}
use Rattle.eos_disk.specs.Names.{base_in}

pub base_of_others : (text : List ℕ) → (length text == 20 && list_all is_ascii_digit text) ≡ false → base_in text ≡ None
unfolding base_in
base_of_others text others = rw others refl

pub base_past : (text : List ℕ) → (length text == 20 && list_all is_ascii_digit text) ≡ true → 2 ^ 63 ≤ digits_value 10 text → base_in text ≡ None
unfolding base_in
base_past text digits past =
    let large : nat_lt (digits_value 10 text) (2 ^ 63) ≡ false = grind (arith, nat_tests, past) in
    rw (digits, large) refl

pub base_is : (text : List ℕ) → (length text == 20 && list_all is_ascii_digit text) ≡ true → digits_value 10 text < 2 ^ 63 → base_in text ≡ Some (digits_value 10 text)
unfolding base_in
base_is text digits small =
    let fits : nat_lt (digits_value 10 text) (2 ^ 63) ≡ true = grind (arith, nat_tests, small) in
    rw (digits, fits) refl
