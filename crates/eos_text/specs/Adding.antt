-- A text that grows at its end.
use Rattle.std.specs.Prelude.{◌≡◌, ℕ, List, ◌++◌}

-- the text is the old one and this one
pub record Adds (old new text : List ℕ) : Type 0 where
  pub whole : new ≡ old ++ text
