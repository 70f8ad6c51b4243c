-- Indexes in a list as contracts see them.
use Rattle.std.specs.Prelude.{ℕ, List}

-- the indexes, and how many there is room for
pub record IndexesView : Type 0 where
  pub list : List ℕ
  pub room : ℕ
