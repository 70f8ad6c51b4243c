-- Every byte is written as character data.
use Rattle.std.proofs.Common.{◌≡◌, ℕ, List, [], ◌∷◌, ◌++◌, Bool, true, false, refl, inl, inr, codes, ◌==◌, if◌then◌else◌}
use Rattle.eos_picture.specs.CharacterData.{IsCharacterData, nothing, character, entity}
use Rattle.eos_picture.specs.Escaping.{is_plain, stand_in, xml_text}

-- what stands for a byte, and then more
by_tests : (amp less greater quote apostrophe : Bool) (rest : List ℕ) → IsCharacterData rest
    → IsCharacterData ((if amp then codes "&amp;" else if less then codes "&lt;" else if greater then codes "&gt;" else if quote then codes "&quot;" else if apostrophe then codes "&apos;" else codes "?") ++ rest)
by_tests true less greater quote apostrophe rest r = entity (codes "&amp;") rest (inl refl) r
by_tests false true greater quote apostrophe rest r = entity (codes "&lt;") rest (inr (inl refl)) r
by_tests false false true quote apostrophe rest r = entity (codes "&gt;") rest (inr (inr (inl refl))) r
by_tests false false false true apostrophe rest r = entity (codes "&quot;") rest (inr (inr (inr (inl refl)))) r
by_tests false false false false true rest r = entity (codes "&apos;") rest (inr (inr (inr (inr (inl refl))))) r
by_tests false false false false false rest r = character 63 rest refl r

by_kind : (byte : ℕ) (plain : Bool) (rest : List ℕ) → is_plain byte ≡ plain → IsCharacterData rest
    → IsCharacterData ((if plain then byte ∷ [] else stand_in byte) ++ rest)
by_kind byte true rest e r = character byte rest e r
by_kind byte false rest e r = by_tests (byte == 38) (byte == 60) (byte == 62) (byte == 34) (byte == 39) rest r

pub all_data : (bytes : List ℕ) → IsCharacterData (xml_text bytes)
all_data [] = nothing
all_data (byte ∷ bytes) = by_kind byte (is_plain byte) (xml_text bytes) refl (all_data bytes)
