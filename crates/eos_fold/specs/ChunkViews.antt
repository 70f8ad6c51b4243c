-- What contracts see of a feed.
use Rattle.std.specs.Prelude.{ℕ, List}

-- what is fed, and the bytes that wait for more
pub record FeedView (F : Type 0) : Type 0 where
  pub fold : F
  pub waiting : List ℕ
