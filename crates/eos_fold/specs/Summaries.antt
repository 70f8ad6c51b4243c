-- What a summary says of a list of batches.
use Rattle.std.specs.Prelude.{◌≡◌, ◌≤◌, Bool, List, Option}
use Rattle.eos_batch.specs.declared.batch.Batch.{Batch}
use Rattle.eos_fold.specs.declared.ends.Ends.{Ends}
use Rattle.eos_fold.specs.declared.fault.Fault.{Fault}
use Rattle.eos_fold.specs.Batches.{DataBatch}
use Rattle.eos_fold.specs.Settling.{data_in}
use Rattle.eos_fold.specs.Tables.{Table, HasEnds, KeepsIndexes}
use Rattle.eos_fold.specs.Faults.{IsSettled, IsLeastOf}

-- Whether sequences are checked, the data batches, what is kept of each producer id, and the least fault that the batches
-- settle by themselves.
pub record BatchSummary : Type 0 where
  pub sequenced : Bool
  pub batches : List DataBatch
  pub producers : Table
  pub fault : Option Fault

pub record IsSummary (hs : List Batch) (s : BatchSummary) : Type 0 where
  pub items : s.batches ≡ data_in hs
  pub ends : HasEnds hs s.producers
  pub places : KeepsIndexes s.producers s.batches
  pub fault : IsLeastOf (IsSettled s.sequenced hs) s.fault

-- the same is known of an id; the room may have grown
pub record SameEnds (e f : Ends) : Type 0 where
  pub first : f.first ≡ e.first
  pub last : f.last ≡ e.last
  pub marker : f.marker ≡ e.marker
  pub waiting : f.waiting.list ≡ e.waiting.list
  pub room : e.waiting.room ≤ f.waiting.room
