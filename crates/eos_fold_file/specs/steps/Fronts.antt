-- The front of a segment, and what is kept of it.
use Rattle.std.specs.Prelude.{◌≡◌, ◌+◌, ℕ, List, length, Option, Some, None}
use Rattle.eos_batch.specs.declared.batch.Batch.{Batch}
use Rattle.eos_batch.specs.declared.fault.BatchFault.{BatchFault}
use Rattle.eos_touch.specs.Front.{records_in, ContinuesFrom}
use Rattle.eos_fold.specs.declared.stop.Stop.{Stop}
use Rattle.eos_fold.specs.declared.stop.Stop.TheVariants.{AtEnd, NoBatch, Elsewhere}
use Rattle.eos_fold.specs.Fronts.{StopsAt}
use Rattle.eos_reading.specs.Epochs.{epoch_entries}
use Rattle.eos_fold_file.specs.Folds.{HasFoldHeads, checksums_in}
use Rattle.eos_fold_file.specs.Legal.{IsRightStop}
use Rattle.eos_wire.specs.Crc.{crc32c_of}
use Rattle.eos_fold_file.specs.declared.front.Front.{Front}

-- the next batch begins elsewhere; or no batch stands where the log stops; or nothing is left
abbrev pub stop_of : ℕ → Option ℕ → Option (ℕ × BatchFault) → Stop
stop_of begin (Some found) stop = Elsewhere found
stop_of begin None None = AtEnd
stop_of begin None (Some stop) = NoBatch begin stop.0 stop.1

-- the front of the segment of this name and these bytes, of whose batches this is kept
pub record IsFront (begin : ℕ) (bytes : List ℕ) (IsKept : List Batch → Type 0) (f : Front) : Type 0 where
  pub batches : List Batch
  pub rest : List ℕ
  pub heads_are : HasFoldHeads bytes batches f.heads rest
  pub continuous : ContinuesFrom begin batches
  pub epochs_are : f.epochs ≡ epoch_entries None batches
  pub checked : f.batches ≡ crc32c_of (checksums_in bytes f.heads)
  pub stops : StopsAt begin (begin + records_in batches) bytes rest f.stop
  pub right : IsRightStop f.stop
  pub kept_is : IsKept batches
  pub sized : f.bytes ≡ length bytes
