-- The bytes of a text that may be null.
use Rattle.std.specs.Prelude.{ℕ, List, [], Option, Some, None}

abbrev pub bytes_in : Option (List ℕ) → List ℕ
bytes_in None = []
bytes_in (Some bytes) = bytes
