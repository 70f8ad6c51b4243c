-- A log's name, read back.
use Rattle.std.proofs.Common.{◌≡◌, ℕ, zero, suc, ◌+◌, ◌-◌, ◌^◌, ◌<◌, ◌≤◌, ℤ, pos, List, [], ◌∷◌, ◌++◌, length, take, drop, replicate, Bool, true, false, ◌&&◌, ◌||◌, ◌==◌, Option, Some, codes, refl, sym, ap, ◌∙◌, append-nil, arith}
use Rattle.std.specs.Prelude.{nat_lt}
use Rattle.std.specs.Char.{is_ascii_digit}
use Rattle.std.specs.Cmp.{first_so, second_so}
use Rattle.std.specs.Fmt.{decimal, padded_integral, number_padding, char_count, format_spec}
use Rattle.std.specs.Int.{is_negative}
use Rattle.std.specs.List.{list_all}
use Rattle.std.specs.Str.{all_ascii_digits}
use Rattle.std.specs.Str.Parse.{digits_value}
use Rattle.std.proofs.lemmas.Fmt.{digits_decimal, decimal_is_IsNumeral, length-decimal-le}
use Rattle.std.proofs.lemmas.Bool.Decides.{nat_tests}
use Rattle.std.proofs.lemmas.List.Folds.{list_any-append}
use Rattle.std.proofs.lemmas.Str.Parse.{numerals_by_value, tells_all_ascii_digits}
use Rattle.std.proofs.Math.Seq.{take-append_seam, drop-append_seam}
use Rattle.eos_disk.specs.declared.names.Form.TheVariants.{Log}
use Rattle.eos_disk.specs.Names.{base_in, file_in_name}
use Rattle.eos_disk.specs.Paths.{padded_base, ending_of}
use Rattle.eos_disk.specs.Written.{has_slash}

abbrev zeros : ℕ → List ℕ → List ℕ
zeros zero ds = ds
zeros (suc k) ds = 48 ∷ zeros k ds

zeros_are : (k : ℕ) (ds : List ℕ) → replicate k 48 ++ ds ≡ zeros k ds
zeros_are zero ds = refl
zeros_are (suc k) ds = ap (λ (x : List ℕ). 48 ∷ x) (zeros_are k ds)

zeros_digits : (k : ℕ) (ds : List ℕ) → list_all is_ascii_digit (zeros k ds) ≡ list_all is_ascii_digit ds
zeros_digits zero ds = refl
zeros_digits (suc k) ds = zeros_digits k ds

zeros_value : (k : ℕ) (ds : List ℕ) → digits_value 10 (zeros k ds) ≡ digits_value 10 ds
zeros_value zero ds = refl
zeros_value (suc k) ds = zeros_value k ds

zeros_long : (k : ℕ) (ds : List ℕ) → length (zeros k ds) ≡ k + length ds
zeros_long zero ds = omega arith
zeros_long (suc k) ds = omega (arith, zeros_long k ds)

all_same : (ds : List ℕ) → list_all is_ascii_digit ds ≡ all_ascii_digits ds
all_same [] = refl
all_same (d ∷ ds) = ap (λ (b : Bool). is_ascii_digit d && b) (all_same ds)

digits : (n : ℕ) → n < 2 ^ 64 → list_all is_ascii_digit (decimal n) ≡ true
digits n h = all_same (decimal n) ∙ digits_decimal (numerals_by_value (λ ds. all_ascii_digits ds ≡ true) tells_all_ascii_digits) n h

abbrev padding : ℕ → ℕ
padding k = number_padding (format_spec 32 0 4 20 (2 ^ 64 - 1)) false [] k

padding_is : (k : ℕ) → padding k ≡ 20 - k
unfolding char_count
padding_is k = omega arith

numeral_is : (ds : List ℕ) → padded_integral (format_spec 32 0 4 20 (2 ^ 64 - 1)) false [] ds ≡ replicate (padding (length ds)) 48 ++ (ds ++ [])
unfolding padded_integral
numeral_is ds = refl

low : (n : ℕ) → nat_lt n 0 ≡ false
low n = grind (arith, nat_tests)

positive : (n : ℕ) → is_negative (pos n) ≡ false
positive n = low n

base_is : (n : ℕ) → padded_base (pos n) ≡ padded_integral (format_spec 32 0 4 20 (2 ^ 64 - 1)) (is_negative (pos n)) [] (decimal n)
base_is n = refl

padded_is : (n : ℕ) → padded_base (pos n) ≡ zeros (20 - length (decimal n)) (decimal n)
padded_is n =
    let ds = decimal n in
    base_is n ∙ (ap (λ (b : Bool). padded_integral (format_spec 32 0 4 20 (2 ^ 64 - 1)) b [] ds) (positive n)
    ∙ (numeral_is ds ∙ (ap (λ (k : ℕ). replicate k 48 ++ (ds ++ [])) (padding_is (length ds))
    ∙ (ap (λ (x : List ℕ). replicate (20 - length ds) 48 ++ x) (append-nil ds) ∙ zeros_are (20 - length ds) ds))))

short : (n : ℕ) → n < 2 ^ 63 → length (decimal n) ≤ 20
short n h = length-decimal-le 20 n (omega arith) (omega arith) (omega arith)

padded_long : (n : ℕ) → n < 2 ^ 63 → length (padded_base (pos n)) ≡ 20
padded_long n h = ap length (padded_is n) ∙ omega (arith, zeros_long (20 - length (decimal n)) (decimal n), short n h)

padded_digits : (n : ℕ) → n < 2 ^ 63 → list_all is_ascii_digit (padded_base (pos n)) ≡ true
padded_digits n h = ap (list_all is_ascii_digit) (padded_is n) ∙ (zeros_digits (20 - length (decimal n)) (decimal n) ∙ digits n (omega arith))

padded_value : (n : ℕ) → n < 2 ^ 63 → digits_value 10 (padded_base (pos n)) ≡ n
padded_value n h = ap (digits_value 10) (padded_is n) ∙ (zeros_value (20 - length (decimal n)) (decimal n) ∙ (decimal_is_IsNumeral n (omega arith)).1)

base_back : (n : ℕ) → n < 2 ^ 63 → base_in (padded_base (pos n)) ≡ Some n
unfolding base_in
base_back n h =
    let value = padded_value n h in
    let low : nat_lt (digits_value 10 (padded_base (pos n))) (2 ^ 63) ≡ true = grind (arith, nat_tests, value, h) in
    let long : (length (padded_base (pos n)) == 20) ≡ true = grind (arith, nat_tests, padded_long n h) in
    rw (long, padded_digits n h, low) (ap Some value)

-- the files of a folder's listing
abbrev Read : {A : Type 0} → (List ℕ → Option A) → Type 0
Read {A} f = A

abbrev pub FileName : Type 0
FileName = Read file_in_name

abbrev pub log_file : ℤ → FileName
log_file base = record { base = base; form = Log }

abbrev pub log_name : ℤ → List ℕ
log_name base = padded_base base ++ ending_of Log

pub log_name_back : (n : ℕ) → n < 2 ^ 63 → file_in_name (log_name (pos n)) ≡ Some (log_file (pos n))
log_name_back n h =
    let long = padded_long n h in
    let front : take 20 (log_name (pos n)) ≡ padded_base (pos n) = ap (λ (k : ℕ). take k (log_name (pos n))) (sym long) ∙ take-append_seam (padded_base (pos n)) (ending_of Log) in
    let rest : drop 20 (log_name (pos n)) ≡ codes ".log" = ap (λ (k : ℕ). drop k (log_name (pos n))) (sym long) ∙ drop-append_seam (padded_base (pos n)) (ending_of Log) in
    rw (rest, front, base_back n h) refl

no_slash_in : (ds : List ℕ) → list_all is_ascii_digit ds ≡ true → has_slash ds ≡ false
no_slash_in [] h = refl
no_slash_in (d ∷ ds) h =
    let digit : is_ascii_digit d ≡ true = first_so (is_ascii_digit d) (list_all is_ascii_digit ds) h in
    let other : (d == 47) ≡ false = grind (arith, nat_tests, digit) in
    ap (λ (t : Bool). t || has_slash ds) other ∙ no_slash_in ds (second_so (is_ascii_digit d) (list_all is_ascii_digit ds) h)

pub decimal_plain : (n : ℕ) → n < 2 ^ 64 → has_slash (decimal n) ≡ false
decimal_plain n h = no_slash_in (decimal n) (digits n h)

pub log_name_plain : (n : ℕ) → n < 2 ^ 63 → has_slash (log_name (pos n)) ≡ false
log_name_plain n h = list_any-append (λ c. c == 47) (padded_base (pos n)) (ending_of Log) ∙ ap (λ (t : Bool). t || has_slash (ending_of Log)) (no_slash_in (padded_base (pos n)) (padded_digits n h))
