-- One of so many shards, by its number from 0.
use Rattle.std.specs.Prelude.{ℕ}

pub record OneShard : Type 0 where
  pub number : ℕ
  pub of : ℕ
