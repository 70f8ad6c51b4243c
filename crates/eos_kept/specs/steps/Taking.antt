-- What is taken over into a run's heads and its table of producer ids.
use Rattle.std.specs.Prelude.{◌≡◌, ℕ, Bool, List, Option}
use Rattle.eos_batch.specs.declared.batch.Batch.{Batch}
use Rattle.eos_fold.specs.Heads.{DataHead}
use Rattle.eos_fold.specs.Batches.{DataBatch}
use Rattle.eos_fold.specs.declared.fault.Fault.{Fault}
use Rattle.eos_fold.specs.Tables.{Table, KeepsIndexes}
use Rattle.eos_fold.specs.steps.Joins.{Rest, Starts, IsTaking, IsTaken, TakesFrom}
use Rattle.eos_kept.specs.Runs.{heads_of}

-- data batches with these heads can take over what is left
abbrev pub CanTake : ℕ → Table → List DataHead → Rest → Type 0
CanTake by t heads rest = (ds : List DataBatch) × (heads ≡ heads_of ds) × IsTaking by t ds rest

-- data batches with these heads wait at the places that are kept
abbrev pub HaveIndexes : Table → List DataHead → Type 0
HaveIndexes t heads = (ds : List DataBatch) × (heads ≡ heads_of ds) × KeepsIndexes t ds

-- the two runs' data, before anything is taken over
pub record Begins (xs ys : List Batch) (s : Bool) (t : Table) (heads : List DataHead) (f : Option Fault) (rest : Rest) : Type 0 where
  pub ds : List DataBatch
  pub heads_are : heads ≡ heads_of ds
  pub starts : Starts xs ys s t ds f rest

-- what has been taken over so far
pub record HasTaken (xs ys : List Batch) (s : Bool) (t : Table) (heads : List DataHead) (f : Option Fault) (rest : Rest) : Type 0 where
  pub ds : List DataBatch
  pub heads_are : heads ≡ heads_of ds
  pub taken : IsTaken xs ys s t ds f rest

-- a run that takes over one batch
pub record BeginsWith (xs : List Batch) (s : Bool) (t : Table) (heads : List DataHead) (f : Option Fault) : Type 0 where
  pub ds : List DataBatch
  pub heads_are : heads ≡ heads_of ds
  pub places : KeepsIndexes t ds
  pub from : TakesFrom s xs t ds f
