-- How many producer ids have a touch.
use Rattle.std.specs.Prelude.{◌≡◌, ℕ, ℤ, List, length, is_some}
use Rattle.std.specs.Ordering.{int_eq}
use Rattle.std.specs.List.{IsDistinct, list_any}
use Rattle.eos_batch.specs.declared.batch.Batch.{Batch}
use Rattle.eos_touch.specs.Touches.{last_touch}

-- the number of unequal producer ids among the touches: the ids that have a touch are these, each once
pub record IsProducerCount (batches : List Batch) (n : ℕ) : Type 0 where
  pub ids : List ℤ
  pub distinct : IsDistinct int_eq ids
  pub each : (id : ℤ) → list_any (int_eq id) ids ≡ is_some (last_touch id batches)
  pub number : n ≡ length ids
