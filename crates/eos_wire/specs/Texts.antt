-- Which bytes are a field of one of Kafka's messages: lengths and counts, texts, lists, and sections of tagged fields, in the plain
-- form and in the flexible one (Kafka's protocol guide, Protocol Primitive Types: STRING and COMPACT_STRING, ARRAY and
-- COMPACT_ARRAY; KIP-482).
use Rattle.std.specs.Prelude.{◌≡◌, ℕ, ◌+◌, ◌^◌, ◌<◌, pos, negsuc, List, [], ◌∷◌, ◌++◌, length}
use Rattle.eos_wire.specs.Numbers.{i16_text, i32_text}
use Rattle.eos_wire.specs.Varint.{IsUvarint}
use Rattle.eos_wire.specs.declared.form.Form.{Form}
use Rattle.eos_wire.specs.declared.form.Form.TheVariants.{Plain, Flexible}

-- ---- lengths

-- the length of a text: an INT16, or an unsigned varint of one more
abbrev pub IsLengthText : Form → List ℕ → ℕ → Type 0
IsLengthText Plain text n = (n < 2 ^ 15) × (text ≡ i16_text (pos n))
IsLengthText Flexible text n = IsUvarint text (n + 1)

-- the count of a list: an INT32, or an unsigned varint of one more
abbrev pub IsCountText : Form → List ℕ → ℕ → Type 0
IsCountText Plain text n = (n < 2 ^ 31) × (text ≡ i32_text (pos n))
IsCountText Flexible text n = IsUvarint text (n + 1)

-- the count of a list that is null
abbrev pub IsNullText : Form → List ℕ → Type 0
IsNullText Plain text = text ≡ i32_text (negsuc 0)
IsNullText Flexible text = IsUvarint text 0

-- ---- texts and lists

-- a text: its length, then its bytes
abbrev pub IsStringText : Form → List ℕ → List ℕ → Type 0
IsStringText form text bytes = (len : List ℕ) × IsLengthText form len (length bytes) × (text ≡ len ++ bytes)

-- the texts of these, one after the other
abbrev pub AreTexts : {X : Type 0} → (List ℕ → X → Type 0) → List ℕ → List X → Type 0
AreTexts P text [] = text ≡ []
AreTexts P text (x ∷ xs) = (first rest : List ℕ) × P first x × AreTexts P rest xs × (text ≡ first ++ rest)

-- a list: its count, then its items
abbrev pub IsListText : {X : Type 0} → Form → (List ℕ → X → Type 0) → List ℕ → List X → Type 0
IsListText form P text xs = (count items : List ℕ) × IsCountText form count (length xs) × AreTexts P items xs × (text ≡ count ++ items)

-- ---- tagged fields, which only the flexible form has

-- a tag, a size, and that many bytes
abbrev pub IsTaggedText : List ℕ → ℕ × List ℕ → Type 0
IsTaggedText text field =
    (tag size : List ℕ) × IsUvarint tag field.0 × IsUvarint size (length field.1) × (text ≡ tag ++ (size ++ field.1))

-- the number of fields, and each field
abbrev pub IsSectionText : Form → List ℕ → Type 0
IsSectionText Plain text = text ≡ []
IsSectionText Flexible text =
    (fields : List (ℕ × List ℕ)) × (count items : List ℕ) × IsUvarint count (length fields) × AreTexts IsTaggedText items fields × (text ≡ count ++ items)
