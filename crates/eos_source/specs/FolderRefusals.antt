-- What can become of a folder's pieces.
use Rattle.std.specs.Prelude.{◌≡◌, ◌<◌, ◌≤◌, ◌^◌, ℕ, List, ◌⊎◌, Option, None, Some, Ok, slice_get, ⊤}
use Rattle.eos_disk.specs.Entries.{Entry, Unknown, Absent, File, Folder}
use Rattle.eos_evidence.specs.declared.segment.Segment.{Segment}
use Rattle.eos_disk.specs.declared.cause.Cause.TheVariants as causes
use Rattle.eos_disk.specs.declared.folder.FolderFault.{FolderFault}
use Rattle.eos_disk.specs.declared.folder.FolderFault.TheVariants.{Limit}
use Rattle.eos_disk.specs.declared.names.Form.{Form}
use Rattle.eos_disk.specs.declared.names.Form.TheVariants.{Log, Fold}
use Rattle.eos_disk.specs.Paths.{segment_path}
use Rattle.eos_disk.specs.Refusals.{MayRefuse, RefusesPiece}
use Rattle.eos_fold_file.specs.declared.file.FoldFile.{FoldFile}
use Rattle.eos_fold_file.specs.Reading.{read_fold}

-- a fold that says it is of the segment of this name, which has no more bytes than a segment may have
pub record IsForName (name : Segment) (f : FoldFile) : Type 0 where
  pub topic : f.topic ≡ name.topic
  pub partition : f.partition ≡ name.partition
  pub base : f.base ≡ name.base
  pub within : f.bytes ≤ 2 ^ 30

-- what stands there can be the segment of this name in this form, as far as it is known: any file is its log, and one that says so its fold
abbrev pub MayBePiece : Segment → Form → Entry → Type 0
MayBePiece name form Unknown = ⊤
MayBePiece name form Absent = ⊥
MayBePiece name form (Folder names) = ⊥
MayBePiece name Log (File bytes) = ⊤
MayBePiece name Fold (File bytes) = (fold : FoldFile) × (read_fold bytes ≡ Ok fold) × IsForName name fold

-- what can become of the file of this path, which is asked for this segment in this form: it was opened, or this refusal names it
abbrev pub IsOutcome : Segment → Form → Entry → List ℕ → Option FolderFault → Type 0
IsOutcome name form e path None = MayBePiece name form e
IsOutcome name form e path (Some why) = RefusesPiece path why × MayRefuse e why

-- of a segment of this name, which stands in this form; where there is none it is refused without words
abbrev pub OutcomeOf : (List ℕ → Entry) → List ℕ → Option Segment → Option Form → Option FolderFault → Type 0
OutcomeOf holds folder (Some name) (Some form) why = IsOutcome name form (holds (segment_path folder name form)) (segment_path folder name form) why
OutcomeOf holds folder (Some name) None why = why ≡ Some (Limit causes.Unknown)
OutcomeOf holds folder None form why = why ≡ Some (Limit causes.Unknown)

-- of the piece of this number
abbrev pub OutcomeAt : (List ℕ → Entry) → List ℕ → List Segment → List Form → ℕ → Option FolderFault → Type 0
OutcomeAt holds folder names forms piece why = OutcomeOf holds folder (slice_get names piece) (slice_get forms piece) why

-- the refusal of some piece; or it names none and has no words
abbrev pub IsOfAny : (ℕ → Option FolderFault → Type 0) → ℕ → FolderFault → Type 0
IsOfAny outcomes pieces why = ((piece : ℕ) × (piece < pieces) × outcomes piece (Some why)) ⊎ (why ≡ Limit causes.Unknown)
