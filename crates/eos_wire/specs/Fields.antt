-- Reading field after field.
use Rattle.std.specs.Prelude.{◌≡◌, ℕ, List, drop, Option, Some, None}

-- what a read returned and what it left are the value at the front and the bytes after it, or there is none
abbrev pub Reads : {X : Type 0} → Option X → List ℕ → Option (X × List ℕ) → Type 0
Reads (Some x) rest read = read ≡ Some (x, rest)
Reads None rest read = read ≡ None

-- a value whose length was read with it, and the bytes after it
abbrev pub with_rest : {X : Type 0} → List ℕ → Option (X × ℕ) → Option (X × List ℕ)
with_rest bytes None = None
with_rest bytes (Some found) = Some (found.0, drop found.1 bytes)
