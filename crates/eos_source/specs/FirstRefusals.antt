-- Which refusal is told of a folder: the first one, in the order in which its files are asked for. That order is the manifest, then the
-- segments' files by number, then what refused to list more of these. Want of memory may come at any time.
use Rattle.std.specs.Prelude.{◌≡◌, ◌⊎◌, ℕ, Bool, true, List, length, Option}
use Rattle.eos_disk.specs.Entries.{Entry}
use Rattle.eos_disk.specs.Paths.{manifest_path}
use Rattle.eos_disk.specs.Refusals.{RefusesManifest}
use Rattle.eos_disk.specs.Shapes.{IsShapeAt}
use Rattle.eos_disk.specs.Stopped.{IsShapeTo}
use Rattle.eos_disk.specs.declared.folder.FolderFault.{FolderFault}
use Rattle.eos_disk.specs.declared.folder.FolderFault.TheVariants.{OutOfMemory}
use Rattle.eos_disk.specs.declared.names.Form.{Form}
use Rattle.eos_evidence.specs.Evidence.{EvidenceParts, segments_of}
use Rattle.eos_source.specs.FolderRefusals.{IsOfAny, OutcomeAt}
use Rattle.eos_source.specs.Refusals.{AreOpened, IsRefusal}

-- ---- of pieces

-- the first of so many pieces that isn't read, or want of memory; or, where all faults are told and each was opened, one that is read again
abbrev pub IsOfPieces : (ℕ → Option FolderFault → Type 0) → ℕ → Bool → FolderFault → Type 0
IsOfPieces outcomes pieces all why = IsRefusal outcomes (λ w. w ≡ OutOfMemory) pieces why ⊎ ((all ≡ true) × AreOpened outcomes pieces × IsOfAny outcomes pieces why)

-- ---- of a folder

-- what can become of the pieces of this shape
abbrev pub outcomes_of : (List ℕ → Entry) → List ℕ → EvidenceParts → List Form → ℕ → Option FolderFault → Type 0
outcomes_of holds folder shape forms = OutcomeAt holds folder (segments_of shape.partitions) forms

abbrev pub pieces_of : EvidenceParts → ℕ
pieces_of shape = length (segments_of shape.partitions)

-- the manifest stands there, and partition by partition these are the segments that are listed: all, or those before a refusal of the listing
abbrev pub IsShapeSoFar : (List ℕ → Entry) → List ℕ → EvidenceParts → List Form → Type 0
IsShapeSoFar holds folder shape forms = IsShapeAt holds folder shape forms ⊎ ((later : FolderFault) × IsShapeTo holds folder shape forms later)

-- it is of one of the pieces that are listed
pub record IsOfPiece (holds : List ℕ → Entry) (folder : List ℕ) (all : Bool) (why : FolderFault) : Type 0 where
  pub shape : EvidenceParts
  pub forms : List Form
  pub is : IsShapeSoFar holds folder shape forms
  pub refused : IsOfPieces (outcomes_of holds folder shape forms) (pieces_of shape) all why

-- each piece that is listed was opened, and it is why no more are listed
pub record IsOfListing (holds : List ℕ → Entry) (folder : List ℕ) (why : FolderFault) : Type 0 where
  pub shape : EvidenceParts
  pub forms : List Form
  pub is : IsShapeTo holds folder shape forms why
  pub opened : AreOpened (outcomes_of holds folder shape forms) (pieces_of shape)

-- the first refusal
abbrev pub IsFirstOfFolder : (List ℕ → Entry) → List ℕ → Bool → FolderFault → Type 0
IsFirstOfFolder holds folder all why = RefusesManifest holds (manifest_path folder) why ⊎ (IsOfPiece holds folder all why ⊎ IsOfListing holds folder why)
