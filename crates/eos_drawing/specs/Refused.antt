-- Why a folder isn't drawn: its first refusal, in the order of `check`, where a later fault than the first counts as all; or, where each of
-- its segments was opened, one that is read again for the times of its records. Of the new file, of too few faults and of a failed
-- write nothing is said here.
use Rattle.std.specs.Prelude.{ℕ, ◌<◌, ◌⊎◌, Bool, List, Some, ⊤}
use Rattle.eos_disk.specs.Entries.{Entry}
use Rattle.eos_disk.specs.declared.folder.FolderFault.{FolderFault}
use Rattle.eos_disk.specs.declared.names.Form.{Form}
use Rattle.eos_evidence.specs.Evidence.{EvidenceParts}
use Rattle.eos_source.specs.FirstRefusals.{IsShapeSoFar, IsFirstOfFolder, outcomes_of, pieces_of}
use Rattle.eos_source.specs.Refusals.{AreOpened}
use Rattle.eos_drawing.specs.declared.folder.Undrawn.{Undrawn}
use Rattle.eos_drawing.specs.declared.folder.Undrawn.TheVariants.{Unwritten, Refused, TooFew, CannotPrint}

-- each piece that is listed was opened, and it is of one of these, which is read again
pub record IsOfTimes (holds : List ℕ → Entry) (folder : List ℕ) (why : FolderFault) : Type 0 where
  pub shape : EvidenceParts
  pub forms : List Form
  pub is : IsShapeSoFar holds folder shape forms
  pub opened : AreOpened (outcomes_of holds folder shape forms) (pieces_of shape)
  pub piece : ℕ
  pub there : piece < pieces_of shape
  pub refused : outcomes_of holds folder shape forms piece (Some why)

-- the first refusal of a folder of which a picture is drawn, around a later fault than the first or not
abbrev pub IsFirstOfDrawing : (List ℕ → Entry) → List ℕ → Bool → FolderFault → Type 0
IsFirstOfDrawing holds folder later why = IsFirstOfFolder holds folder later why ⊎ IsOfTimes holds folder why

abbrev pub IsFirst : (List ℕ → Entry) → List ℕ → Bool → Undrawn → Type 0
IsFirst holds folder later (Refused why) = IsFirstOfDrawing holds folder later why
IsFirst holds folder later (Unwritten fault) = ⊤
IsFirst holds folder later (TooFew count) = ⊤
IsFirst holds folder later CannotPrint = ⊤
