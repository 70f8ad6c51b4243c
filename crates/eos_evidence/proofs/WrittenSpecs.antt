-- What is written for a spec reads back.
use Rattle.std.proofs.Common.{◌≡◌, ℕ, zero, suc, ◌+◌, ◌%◌, ◌<◌, ◌^◌, pos, List, [], ◌∷◌, ◌++◌, true, false, not, ◌&&◌, ◌||◌, ◌==◌, nat_lt, nat_le, Some, length, get_or, slice_index, IsUtf8, IsAscii, decimal, refl, ap, ◌∙◌, arith}
use Rattle.std.specs.Char.{is_ascii_digit}
use Rattle.std.specs.Cmp.{first_so, second_so}
use Rattle.std.specs.List.{list_any, list_all}
use Rattle.std.specs.Str.Parse.{digits_value}
use Rattle.std.proofs.lemmas.Bool.Decides.{nat_tests}
use Rattle.std.proofs.lemmas.Fmt.{decimal_by_steps, decimal_digit, decimal_is_IsNumeral, decimal_nonempty, length-decimal-le, first_decimal}
use Rattle.std.proofs.lemmas.Str.{IsUtf8-from_ascii}
use Rattle.eos_evidence.specs.Topics.{is_topic_byte, has_topic_length, is_dots, is_topic}
use Rattle.eos_base.specs.Decimals.{is_numeral, number_below}
use Rattle.eos_base.proofs.PlainNumbers.{number_is}
use Rattle.eos_evidence.specs.PartitionNames.{is_hyphen, partition_of}
use Rattle.eos_evidence.proofs.NamesOfPartitions.{split_there}

-- ---- names

topic_byte_small : (b : ℕ) → is_topic_byte b ≡ true → b < 128
topic_byte_small b h = grind (arith, nat_tests)

ascii : (t : List ℕ) → list_all is_topic_byte t ≡ true → IsAscii t
ascii [] h i = omega arith
ascii (b ∷ bs) h zero = topic_byte_small b (first_so (is_topic_byte b) (list_all is_topic_byte bs) h)
ascii (b ∷ bs) h (suc i) = ascii bs (second_so (is_topic_byte b) (list_all is_topic_byte bs) h) i

pub topic_is_text : (t : List ℕ) → is_topic t ≡ true → IsUtf8 t
topic_is_text t h = IsUtf8-from_ascii t (ascii t (second_so (has_topic_length t) (list_all is_topic_byte t) (first_so (has_topic_length t && list_all is_topic_byte t) (not (is_dots t)) h)))

all_append : (ds es : List ℕ) → list_all is_ascii_digit ds ≡ true → list_all is_ascii_digit es ≡ true → list_all is_ascii_digit (ds ++ es) ≡ true
all_append [] es h g = g
all_append (d ∷ ds) es h g = rw (first_so (is_ascii_digit d) (list_all is_ascii_digit ds) h) (all_append ds es (second_so (is_ascii_digit d) (list_all is_ascii_digit ds) h) g)

digit_is : (d : ℕ) → d < 10 → is_ascii_digit (48 + d) ≡ true
digit_is d h = grind (arith, nat_tests)

digits : (n : ℕ) → n < 2 ^ 64 → list_all is_ascii_digit (decimal n) ≡ true
digits = decimal_by_steps (λ _ ds. list_all is_ascii_digit ds ≡ true)
    (λ n lt. rw (digit_is n lt) refl)
    (λ n ds le so_far. all_append ds _ so_far (rw (digit_is (n % 10) (omega arith)) refl))

no_hyphen : (ds : List ℕ) → list_all is_ascii_digit ds ≡ true → list_any is_hyphen ds ≡ false
no_hyphen [] h = refl
no_hyphen (d ∷ ds) h =
    let digit : is_ascii_digit d ≡ true = first_so (is_ascii_digit d) (list_all is_ascii_digit ds) h in
    let other : is_hyphen d ≡ false = grind (arith, nat_tests, digit) in
    rw other (no_hyphen ds (second_so (is_ascii_digit d) (list_all is_ascii_digit ds) h))

lead : (n : ℕ) → n < 2 ^ 31 → (length (decimal n) == 1 || not (slice_index (decimal n) 0 == 48)) ≡ true
lead zero h = rw (decimal_digit 0 (omega arith)) refl
lead (suc n) h =
    let first : 48 < get_or (decimal (suc n)) 0 0 = first_decimal (suc n) (omega arith) (omega arith) in
    grind (arith, nat_tests, first)

number_back : (n : ℕ) → n < 2 ^ 31 → number_below (2 ^ 31) (decimal n) ≡ Some n
number_back n h =
    let value : digits_value 10 (decimal n) ≡ n = (decimal_is_IsNumeral n (omega arith)).1 in
    let some : nat_lt 0 (length (decimal n)) ≡ true = grind (arith, nat_tests, decimal_nonempty n (omega arith)) in
    let few : nat_le (length (decimal n)) 19 ≡ true = grind (arith, nat_tests, length-decimal-le 10 n (omega arith) (omega arith) (omega arith)) in
    let numeral : is_numeral (decimal n) ≡ true = rw (some, few, digits n (omega arith)) (lead n h) in
    number_is (2 ^ 31) (decimal n) numeral (omega (arith, value)) ∙ ap Some value

pub name_back : (topic : List ℕ) (n : ℕ) → n < 2 ^ 31 → partition_of (topic ++ 45 ∷ decimal n) ≡ Some (topic, pos n)
name_back topic n h = rw (split_there topic (decimal n) (no_hyphen (decimal n) (digits n (omega arith))), number_back n h) refl
