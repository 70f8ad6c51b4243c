-- The digits that are left go on with the number so far, which has as many digits as were read.
use Rattle.std.proofs.Common.{◌≡◌, ◌<◌, ◌^◌, drop, true}
use Rattle.std.specs.Char.{is_ascii_digit}
use Rattle.std.specs.List.{list_all}
use Rattle.std.specs.Str.Parse.{digits_value, digits_value_after}
use Rattle.eos_base.proofs.decimal.value_of_digits.Given as goal

abbrev pub invariant-loop-byte : goal.invariant-loop-byte
invariant-loop-byte l = record {
  value_is : digits_value_after 10 l.value (drop l.byte-index l.text) ≡ digits_value 10 l.text;
  small : l.value < 10 ^ l.byte-index;
  digits : list_all is_ascii_digit (drop l.byte-index l.text) ≡ true;
}
