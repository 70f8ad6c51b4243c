-- The closes of a list of batches: of each transactional data batch and its next end marker. And what is still open. Their
-- order: by producer id, by the data's epoch, by the marker's epoch, and COMMIT before ABORT.
-- Source: KIP-98 (a transactional data batch is ended by the next end marker of its producer id).
use Rattle.std.specs.Prelude.{ℕ, ℤ, List, [], ◌∷◌, ◌++◌, Option, Some, None, if◌then◌else◌}
use Rattle.std.specs.declared.cmp.Ordering.{Ordering}
use Rattle.std.specs.Ordering.{nat_cmp, int_cmp, then_cmp, on}
use Rattle.eos_batch.specs.declared.batch.Batch.{Batch}
use Rattle.eos_batch.specs.declared.marker.Kind.{Kind}
use Rattle.eos_batch.specs.declared.marker.Kind.TheVariants.{Commit, Abort}
use Rattle.eos_batch.specs.Attributes.{is_transactional}
use Rattle.eos_fold.specs.declared.entry.Ending.{Ending}
use Rattle.eos_fold.specs.declared.entry.Ending.TheVariants.{Plain, Ended, Waiting}
use Rattle.eos_fold.specs.Batches.{DataBatch}
use Rattle.eos_fold.specs.declared.mark.EndMark.{EndMark}
use Rattle.eos_fold.specs.Ends.{is_data, first_marker}
use Rattle.eos_fold.specs.declared.close.Close.{Close}

abbrev pub close_by : ℤ → ℤ → Option EndMark → List Close
close_by id epoch None = []
close_by id epoch (Some m) = record { producer = id; epoch = epoch; marker_epoch = m.epoch; kind = m.kind } ∷ []

-- of a data batch, after which these come
abbrev pub close_of : Batch → List Batch → List Close
close_of b bs = if is_transactional b.attributes then close_by b.producer b.epoch (first_marker b.producer bs) else []

abbrev pub closes_of : List Batch → List Close
closes_of [] = []
closes_of (b ∷ bs) = (if is_data b then close_of b bs else []) ++ closes_of bs

abbrev pub open_by : ℤ → ℤ → Option EndMark → List (ℤ × ℤ)
open_by id epoch None = (id, epoch) ∷ []
open_by id epoch (Some m) = []

abbrev pub open_of : Batch → List Batch → List (ℤ × ℤ)
open_of b bs = if is_transactional b.attributes then open_by b.producer b.epoch (first_marker b.producer bs) else []

-- the producer id and epoch of each transactional data batch without a next marker
abbrev pub opens_of : List Batch → List (ℤ × ℤ)
opens_of [] = []
opens_of (b ∷ bs) = (if is_data b then open_of b bs else []) ++ opens_of bs

-- ---- the same, read off the data batches

abbrev pub close_in : Option (ℤ × ℤ) → Ending → List Close
close_in None f = []
close_in (Some w) Plain = []
close_in (Some w) (Ended e k) = record { producer = w.0; epoch = w.1; marker_epoch = e; kind = k } ∷ []
close_in (Some w) (Waiting p) = []

abbrev pub closes_in : List DataBatch → List Close
closes_in [] = []
closes_in (d ∷ ds) = close_in d.writer d.ending ++ closes_in ds

abbrev pub open_in : Option (ℤ × ℤ) → Ending → List (ℤ × ℤ)
open_in None f = []
open_in (Some w) Plain = []
open_in (Some w) (Ended e k) = []
open_in (Some w) (Waiting p) = w ∷ []

abbrev pub opens_in : List DataBatch → List (ℤ × ℤ)
opens_in [] = []
opens_in (d ∷ ds) = open_in d.writer d.ending ++ opens_in ds

-- ---- their order

abbrev pub rank_of : Kind → ℕ
rank_of Commit = 0
rank_of Abort = 1

abbrev pub close_cmp : Close → Close → Ordering
close_cmp = then_cmp (on (λ c. c.producer) int_cmp) (then_cmp (on (λ c. c.epoch) int_cmp) (then_cmp (on (λ c. c.marker_epoch) int_cmp) (on (λ c. rank_of c.kind) nat_cmp)))
