-- A text in which no object has two members of one name (RFC 8259, section 4: names should be unique).
use Rattle.std.specs.Prelude.{ℕ, List, IsSomeAnd}
use Rattle.json.specs.Json.{document}
use Rattle.json.specs.Strict.{HasUniqueKeys}

abbrev pub NamesOnce : List ℕ → Type 0
NamesOnce text = IsSomeAnd (document text) HasUniqueKeys
