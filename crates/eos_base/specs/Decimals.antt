-- Numbers in decimal, as Kafka's tools print them and its folders are named: no sign, and no zero in front of another digit.
use Rattle.std.specs.Prelude.{ℕ, ◌&&◌, ◌||◌, ◌==◌, List, Bool, not, nat_lt, nat_le, if◌then◌else◌, length, slice_index, Option, None, Some}
use Rattle.std.specs.Char.{is_ascii_digit}
use Rattle.std.specs.List.{list_all}
use Rattle.std.specs.Str.Parse.{digits_value}

-- one to 19 digits, of which the first is 0 only where it stands alone
abbrev pub is_numeral : List ℕ → Bool
is_numeral text = nat_lt 0 (length text) && nat_le (length text) 19 && list_all is_ascii_digit text && (length text == 1 || not (slice_index text 0 == 48))

-- the number of a text, where it is below the limit
unfoldable pub number_below : ℕ → List ℕ → Option ℕ
number_below limit text = if is_numeral text && nat_lt (digits_value 10 text) limit then Some (digits_value 10 text) else None
