-- XML's character data, as it may stand between tags and inside an attribute's quotes (XML 1.0, "Character Data and Markup",
-- "Characters"): printable characters of ASCII, and entities for the five that markup begins or ends with.
use Rattle.std.specs.Prelude.{◌≡◌, ℕ, List, [], ◌∷◌, ◌++◌, true, codes}
use Rattle.eos_base.specs.Members.{Has}
use Rattle.eos_picture.specs.Escaping.{is_plain}

-- the predefined entities
abbrev pub entities : List (List ℕ)
entities = codes "&amp;" ∷ codes "&lt;" ∷ codes "&gt;" ∷ codes "&quot;" ∷ codes "&apos;" ∷ []

-- pieces after one another, each a printable character that isn't markup, or an entity
pub data IsCharacterData : List ℕ → Type 0 where
  nothing : IsCharacterData []
  character : (c : ℕ) (rest : List ℕ) → is_plain c ≡ true → IsCharacterData rest → IsCharacterData (c ∷ rest)
  entity : (e rest : List ℕ) → Has entities e → IsCharacterData rest → IsCharacterData (e ++ rest)
