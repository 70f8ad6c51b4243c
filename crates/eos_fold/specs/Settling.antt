-- The data of a list of batches, each with its fate: the next marker of its producer id decides.
-- Source: KIP-98 (a transactional data batch is ended by the next end marker of its producer id).
use Rattle.std.specs.Prelude.{ℕ, ◌+◌, ℤ, Bool, false, List, [], ◌∷◌, ◌++◌, Option, Some, None, if◌then◌else◌}
use Rattle.std.specs.Ordering.{int_eq}
use Rattle.eos_batch.specs.declared.batch.Batch.{Batch}
use Rattle.eos_fold.specs.declared.entry.Ending.{Ending}
use Rattle.eos_fold.specs.declared.entry.Ending.TheVariants.{Plain, Ended, Waiting}
use Rattle.eos_fold.specs.Batches.{DataBatch, data_batch}
use Rattle.eos_fold.specs.declared.mark.EndMark.{EndMark}
use Rattle.eos_fold.specs.Ends.{is_data, first_marker}

abbrev pub ended : EndMark → Ending
ended m = Ended m.epoch m.kind

-- by the next marker of this id, if there is one
abbrev pub ending_by : ℤ → Option EndMark → Ending
ending_by id None = Waiting id
ending_by id (Some m) = ended m

-- what waits is settled by these markers, one of each id
abbrev pub resolved : (ℤ → Option EndMark) → Ending → Ending
resolved markers (Waiting id) = ending_by id (markers id)
resolved markers Plain = Plain
resolved markers (Ended e k) = Ended e k

abbrev pub settled : (ℤ → Option EndMark) → DataBatch → DataBatch
settled markers i = record { offset = i.offset; writer = i.writer; ending = resolved markers i.ending; records = i.records }

-- the data batch, after which these come
abbrev pub data_after : Batch → List Batch → DataBatch
data_after b bs = settled (λ id. first_marker id bs) (data_batch b)

-- the data batches, in order
abbrev pub data_in : List Batch → List DataBatch
data_in [] = []
data_in (b ∷ bs) = (if is_data b then data_after b bs ∷ [] else []) ++ data_in bs

-- ---- what waits

abbrev pub waits : ℤ → Ending → Bool
waits id (Waiting p) = int_eq id p
waits id Plain = false
waits id (Ended e k) = false

-- the places, from this one on, of the items that wait for a marker of this id
abbrev pub waiting_from : ℕ → ℤ → List DataBatch → List ℕ
waiting_from at id [] = []
waiting_from at id (i ∷ is) = (if waits id i.ending then at ∷ [] else []) ++ waiting_from (at + 1) id is

abbrev pub waiting_in : ℤ → List DataBatch → List ℕ
waiting_in id is = waiting_from 0 id is
