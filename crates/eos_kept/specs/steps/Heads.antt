-- The heads of data batches as contracts see them.
use Rattle.std.specs.Prelude.{ℕ, List}
use Rattle.eos_fold.specs.Heads.{DataHead}

-- the heads, and how many there is room for
pub record HeadsView : Type 0 where
  pub list : List DataHead
  pub room : ℕ
