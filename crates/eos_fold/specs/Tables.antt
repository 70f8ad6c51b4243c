-- What a table keeps of each producer id.
use Rattle.std.specs.Prelude.{◌≡◌, ℤ, List, [], Option, Some, None}
use Rattle.std.specs.Ordering.{int_cmp}
use Rattle.std.specs.BTreeMap.{BTreeMap, get}
use Rattle.eos_batch.specs.declared.batch.Batch.{Batch}
use Rattle.eos_fold.specs.Batches.{DataBatch}
use Rattle.eos_fold.specs.declared.ends.Ends.{Ends}
use Rattle.eos_fold.specs.Ends.{first_placed, last_placed, first_marker}
use Rattle.eos_fold.specs.Settling.{waiting_in}

-- nothing is known of an id that the table doesn't have
abbrev pub ends_in : Option Ends → Ends
ends_in None = record { first = None; last = None; marker = None; waiting = record { list = []; room = 0 } }
ends_in (Some e) = e

abbrev pub Table : Type 0
Table = BTreeMap ℤ Ends

abbrev pub ends_at : Table → ℤ → Ends
ends_at t id = ends_in (get int_cmp t id)

-- what is kept of an id is true of these batches
pub record AreEnds (id : ℤ) (hs : List Batch) (e : Ends) : Type 0 where
  pub first : e.first ≡ first_placed id hs
  pub last : e.last ≡ last_placed id hs
  pub marker : e.marker ≡ first_marker id hs

abbrev pub HasEnds : List Batch → Table → Type 0
HasEnds hs t = (id : ℤ) → AreEnds id hs (ends_at t id)

-- the places of what waits are those of the items
abbrev pub KeepsIndexes : Table → List DataBatch → Type 0
KeepsIndexes t is = (id : ℤ) → (ends_at t id).waiting.list ≡ waiting_in id is
