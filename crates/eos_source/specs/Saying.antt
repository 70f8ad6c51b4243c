-- What the pieces of a folder say, by what stands in their files: a log its bytes, a fold the one that its bytes are.
use Rattle.std.specs.Prelude.{◌≡◌, ◌<◌, ℕ, List, length, Option, None, Some, option_and_then, Result, Ok, Err, slice_get}
use Rattle.eos_disk.specs.Entries.{Entry, Unknown, Absent, File, Folder}
use Rattle.eos_evidence.specs.declared.segment.Segment.{Segment}
use Rattle.eos_evidence.specs.Evidence.{EvidenceParts, segments_of}
use Rattle.eos_fold_file.specs.declared.fault.FoldFault.{FoldFault}
use Rattle.eos_fold_file.specs.declared.file.FoldFile.{FoldFile}
use Rattle.eos_fold_file.specs.Reading.{read_fold}
use Rattle.eos_disk.specs.declared.names.Form.{Form}
use Rattle.eos_disk.specs.declared.names.Form.TheVariants.{Log, Fold}
use Rattle.eos_disk.specs.Paths.{segment_path}
use Rattle.eos_disk.specs.Shapes.{IsShapeAt}
use Rattle.eos_source.specs.Said.{Said, Known, known_by}
use Rattle.eos_source.specs.Said as say
use Rattle.eos_source.specs.Shapes.{IsOfShape}
use Rattle.eos_source.specs.FolderLogs.{is_log_at}

abbrev pub said_in : Result FoldFile FoldFault → Option Said
said_in (Ok fold) = Some (say.Fold fold)
said_in (Err fault) = None

-- what stands there says, in this form
abbrev pub said_by : Form → Entry → Option Said
said_by form Unknown = None
said_by form Absent = None
said_by form (Folder names) = None
said_by Log (File bytes) = Some (say.Log bytes)
said_by Fold (File bytes) = said_in (read_fold bytes)

-- what the piece of this number says, of segments of these names and forms
abbrev pub said_at : (List ℕ → Entry) → List ℕ → List Segment → List Form → ℕ → Option Said
said_at holds folder names forms piece =
    option_and_then (λ name. option_and_then (λ form. said_by form (holds (segment_path folder name form))) (slice_get forms piece)) (slice_get names piece)

-- and whether it is a log
abbrev pub known_at : (List ℕ → Entry) → List ℕ → List Segment → List Form → ℕ → Known
known_at holds folder names forms piece = known_by (said_at holds folder names forms) (is_log_at forms) piece

-- an evidence of this shape, each of whose segments is such as its file says
pub record StandsAs (holds : List ℕ → Entry) (folder : List ℕ) (forms : List Form) (shape evidence : EvidenceParts) : Type 0 where
  pub said : ℕ → Said
  pub stands : (piece : ℕ) → piece < length (segments_of shape.partitions) → said_at holds folder (segments_of shape.partitions) forms piece ≡ Some (said piece)
  pub is : IsOfShape said shape evidence

-- the evidence that stands in a folder: manifest and listings say its shape, and its segments are such as their files say. Of a folder of
-- logs there is one; with a fold it is each evidence of which that is the fold.
pub record StandsAt (holds : List ℕ → Entry) (folder : List ℕ) (evidence : EvidenceParts) : Type 0 where
  pub shape : EvidenceParts
  pub forms : List Form
  pub is : IsShapeAt holds folder shape forms
  pub stands : StandsAs holds folder forms shape evidence
