-- How a topic or an id is printed: as it is where it has only bytes that a topic may have (ASCII letters, digits, '.', '_' and
-- '-', Kafka's rule for topic names), and each other byte as '%' and two lower-case hexadecimal digits.
use Rattle.std.specs.Prelude.{ℕ, List, [], ◌∷◌, ◌++◌, Bool, ◌||◌, ◌==◌, codes, if◌then◌else◌}
use Rattle.std.specs.Char.{is_ascii_alphanumeric}
use Rattle.hex.specs.Hex.{encode_lower}

abbrev pub is_plain : ℕ → Bool
is_plain byte = is_ascii_alphanumeric byte || byte == 46 || byte == 95 || byte == 45

abbrev pub escaped_byte : ℕ → List ℕ
escaped_byte byte = if is_plain byte then byte ∷ [] else codes "%" ++ encode_lower (byte ∷ [])

abbrev pub escaped : List ℕ → List ℕ
escaped [] = []
escaped (byte ∷ bytes) = escaped_byte byte ++ escaped bytes
