-- What `dump` prints for the bytes of a segment: the lines of its batches and records, and a last line that says where the
-- bytes end, or where the first fault is. Which lines a batch has is a parameter: `IsListing` is said of all of them.
use Rattle.std.specs.Prelude.{◌≡◌, ◌≢◌, ℕ, ◌+◌, List, [], ◌∷◌, ◌++◌, length, codes, Err, Option, Some, None, if◌then◌else◌}
use Rattle.std.specs.Fmt.{decimal}
use Rattle.eos_batch.specs.declared.batch.Batch.{Batch}
use Rattle.eos_batch.specs.declared.fault.BatchFault.{BatchFault}
use Rattle.eos_batch.specs.declared.marker.Marker.{Marker}
use Rattle.eos_batch.specs.declared.marker.Kind.{Kind}
use Rattle.eos_batch.specs.declared.marker.Kind.TheVariants.{Commit, Abort}
use Rattle.eos_batch.specs.Attributes.{is_control, is_transactional}
use Rattle.eos_batch.specs.Marker.{marker_of}
use Rattle.eos_batch.specs.Names.{name_of}
use Rattle.eos_batch.specs.Reading.{batch_at}
use Rattle.eos_batch.specs.Text.{IsBatchText}
use Rattle.eos_segment.specs.Lines.{batch_line, record_lines}

-- the last word of a batch's line
abbrev pub end_word : Kind → List ℕ
end_word Commit = codes "commit"
end_word Abort = codes "abort"

abbrev pub control_word : Option Marker → List ℕ
control_word None = codes "control"
control_word (Some marker) = end_word marker.kind

abbrev pub kind_word : Batch → List ℕ
kind_word b = if is_control b.attributes then control_word (marker_of b) else (if is_transactional b.attributes then codes "txn" else codes "plain")

-- the lines of the batch that begins at this byte
abbrev pub batch_lines : ℕ → Batch → List ℕ
batch_lines byte b = batch_line byte (kind_word b) b ++ record_lines b.base_offset b.records

-- the last line: where the bytes end, or where no batch begins, and why
abbrev pub last_line : ℕ → Option BatchFault → List ℕ
last_line byte None = (codes "end bytes=" ++ decimal byte) ++ codes "\n"
last_line byte (Some fault) = (codes "bad byte=" ++ decimal byte) ++ ((codes " " ++ name_of fault) ++ codes "\n")

-- the exit status
abbrev pub status_of : Option BatchFault → ℕ
status_of None = 0
status_of (Some fault) = 1

-- no byte is left, or what is left begins with no batch
abbrev pub StopsHere : List ℕ → Option BatchFault → Type 0
StopsHere rest None = rest ≡ []
StopsHere rest (Some fault) = (rest ≢ []) × (batch_at rest ≡ Err fault)

pub record IsLast (byte : ℕ) (rest text : List ℕ) (status : ℕ) : Type 0 where
  pub stop : Option BatchFault
  pub stops : StopsHere rest stop
  pub line : text ≡ last_line byte stop
  pub exit : status ≡ status_of stop

-- The bytes from this one on are texts of these batches and then end, or have a fault. The text says so, in the lines that
-- each batch has.
abbrev pub Lists : (ℕ → Batch → List ℕ) → ℕ → List ℕ → List Batch → List ℕ → ℕ → Type 0
Lists lines_of byte bytes [] text status = IsLast byte bytes text status
Lists lines_of byte bytes (b ∷ bs) text status =
    (batch more lines : List ℕ) × IsBatchText batch b × (bytes ≡ batch ++ more) × (text ≡ lines_of byte b ++ lines)
    × Lists lines_of (byte + length batch) more bs lines status

abbrev pub IsListingFrom : (ℕ → Batch → List ℕ) → ℕ → List ℕ → List ℕ → ℕ → Type 0
IsListingFrom lines_of byte bytes text status = (batches : List Batch) × Lists lines_of byte bytes batches text status

-- the text and the exit status of `dump` for these bytes
abbrev pub IsListing : List ℕ → List ℕ → ℕ → Type 0
IsListing bytes text status = IsListingFrom batch_lines 0 bytes text status
