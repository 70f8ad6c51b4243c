-- A text where HTML has markup (HTML, section 13.1.4): each byte that could be markup as its character reference. What isn't ASCII or is
-- a control, but for the line feed, is '%' and two lower-case hexadecimal digits: so a page is ASCII, and nothing turns its direction.
use Rattle.std.specs.Prelude.{ℕ, List, [], ◌∷◌, ◌++◌, Bool, ◌&&◌, ◌||◌, ◌==◌, nat_le, nat_lt, codes, if◌then◌else◌}
use Rattle.std.specs.Fmt.{decimal}
use Rattle.hex.specs.Hex.{encode_lower}

-- a quotation mark, an ampersand, an apostrophe, or a bracket of a tag
abbrev pub is_markup : ℕ → Bool
is_markup byte = byte == 34 || byte == 38 || byte == 39 || byte == 60 || byte == 62

abbrev pub is_shown : ℕ → Bool
is_shown byte = byte == 10 || (nat_le 32 byte && nat_lt byte 127)

unfoldable pub html_byte : ℕ → List ℕ
html_byte byte =
    if is_markup byte then codes "&#" ++ (decimal byte ++ codes ";")
    else if is_shown byte then byte ∷ [] else codes "%" ++ encode_lower (byte ∷ [])

abbrev pub html : List ℕ → List ℕ
html [] = []
html (byte ∷ bytes) = html_byte byte ++ html bytes
