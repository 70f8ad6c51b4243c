-- How a text is written in XML (XML 1.0, "Character Data and Markup"): a printable character of ASCII as it is, but the five that
-- markup begins or ends with as their entities (XML 1.0, "Predefined Entities"); every other byte as '?'.
use Rattle.std.specs.Prelude.{ℕ, List, [], ◌∷◌, ◌++◌, Bool, not, ◌||◌, ◌&&◌, ◌==◌, nat_le, codes, if◌then◌else◌}

-- '&', '<', '>', '"' or '''
abbrev pub is_markup : ℕ → Bool
is_markup byte = byte == 38 || byte == 60 || byte == 62 || byte == 34 || byte == 39

-- from the space to the tilde, and no markup
abbrev pub is_plain : ℕ → Bool
is_plain byte = nat_le 32 byte && nat_le byte 126 && not (is_markup byte)

abbrev pub stand_in : ℕ → List ℕ
stand_in byte =
    if byte == 38 then codes "&amp;"
    else if byte == 60 then codes "&lt;"
    else if byte == 62 then codes "&gt;"
    else if byte == 34 then codes "&quot;"
    else if byte == 39 then codes "&apos;"
    else codes "?"

abbrev pub xml_byte : ℕ → List ℕ
xml_byte byte = if is_plain byte then byte ∷ [] else stand_in byte

abbrev pub xml_text : List ℕ → List ℕ
xml_text [] = []
xml_text (byte ∷ bytes) = xml_byte byte ++ xml_text bytes
