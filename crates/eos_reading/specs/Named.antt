-- What a claim is read from, of any headers: those that stand under one of the five names of a claim, name by name. So it can be
-- shown of a record whose headers are no claim what stands there.
use Rattle.std.specs.Prelude.{ℕ, List, [], ◌∷◌, map, flat_map, codes, Option, Some, None, ⊤}
use Rattle.eos_wire.specs.Numbers.{IsBytes}
use Rattle.eos_batch.specs.declared.record.Header.{Header}
use Rattle.eos_claims.specs.Headers.{values_of}

abbrev pub claim_names : List (List ℕ)
claim_names = codes "eo.topic" ∷ (codes "eo.partition" ∷ (codes "eo.offset" ∷ (codes "eo.output" ∷ (codes "eo.of" ∷ []))))

-- the headers under this name, in order
abbrev pub headers_under : List Header → List ℕ → List Header
headers_under headers name = map (λ value. record { key = name; value = value }) (values_of name headers)

abbrev pub named_headers : List Header → List Header
named_headers headers = flat_map (headers_under headers) claim_names

-- bytes, or null
abbrev pub IsText : Option (List ℕ) → Type 0
IsText None = ⊤
IsText (Some bytes) = IsBytes bytes

abbrev pub AreTexts : List Header → Type 0
AreTexts [] = ⊤
AreTexts (h ∷ hs) = IsText h.value × AreTexts hs
