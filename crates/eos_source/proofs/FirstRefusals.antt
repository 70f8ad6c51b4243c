-- A refusal of a folder is the first one: of its pieces, and of manifest and listing.
use Rattle.std.proofs.Common.{◌≡◌, ◌<◌, ◌⊎◌, inl, inr, ℕ, Bool, true, List, Option, Some, Result, Ok, Err, refl}
use Rattle.std.specs.Prelude.{⊤}
use Rattle.eos_disk.specs.Entries.{Entry}
use Rattle.eos_disk.specs.Paths.{manifest_path}
use Rattle.eos_disk.specs.Refusals.{RefusesManifest}
use Rattle.eos_disk.specs.Shapes.{IsShapeAt}
use Rattle.eos_disk.specs.Stopped.{IsShapeTo}
use Rattle.eos_disk.specs.declared.folder.FolderFault.{FolderFault}
use Rattle.eos_disk.specs.declared.folder.FolderFault.TheVariants.{OutOfMemory}
use Rattle.eos_disk.specs.declared.names.Form.{Form}
use Rattle.eos_evidence.specs.Evidence.{EvidenceParts}
use Rattle.eos_source.specs.FolderRefusals.{IsOfAny}
use Rattle.eos_source.specs.Refusals.{AreOpened, IsRefusal}
use Rattle.eos_source.specs.FirstRefusals.{IsOfPieces, IsShapeSoFar, IsFirstOfFolder, outcomes_of, pieces_of}

-- ---- of a folder's pieces

pub refused_of : (outcomes : ℕ → Option FolderFault → Type 0) (pieces : ℕ) (all : Bool) (why : FolderFault) → IsRefusal outcomes (λ w. w ≡ OutOfMemory) pieces why ⊎ ((all ≡ true) × AreOpened outcomes pieces × (piece : ℕ) × (piece < pieces) × outcomes piece (Some why))
    → IsOfPieces outcomes pieces all why
refused_of outcomes pieces all why (inl first) = inl first
refused_of outcomes pieces all why (inr again) = inr (again.0, again.1, inl (again.2, again.3, again.4))

pub fold_of : (outcomes : ℕ → Option FolderFault → Type 0) (pieces : ℕ) (all : Bool) (piece : ℕ) (why : FolderFault) → (all ≡ true) × AreOpened outcomes pieces × (piece < pieces)
    → outcomes piece (Some why) → IsOfPieces outcomes pieces all why
fold_of outcomes pieces all piece why u h = inr (u.0, u.1, inl (piece, u.2, h))

pub changed_of : (outcomes : ℕ → Option FolderFault → Type 0) (pieces : ℕ) (all : Bool) (why : FolderFault) → (all ≡ true) × AreOpened outcomes pieces
    → IsOfAny outcomes pieces why → IsOfPieces outcomes pieces all why
changed_of outcomes pieces all why u h = inr (u.0, u.1, h)

pub memory_of : (outcomes : ℕ → Option FolderFault → Type 0) (pieces : ℕ) (all : Bool) → IsOfPieces outcomes pieces all OutOfMemory
memory_of outcomes pieces all = inl (inr refl)

-- ---- of a folder

pub so_far : (holds : List ℕ → Entry) (folder : List ℕ) (shape : EvidenceParts) (forms : List Form) (listed : Result ⊤ FolderFault) → (listed ≡ Ok tt → IsShapeAt holds folder shape forms)
    → ((why : FolderFault) → listed ≡ Err why → IsShapeTo holds folder shape forms why) → IsShapeSoFar holds folder shape forms
so_far holds folder shape forms (Ok u) all front = inl (all refl)
so_far holds folder shape forms (Err why) all front = inr (why, front why refl)

pub of_manifest : (holds : List ℕ → Entry) (folder : List ℕ) (all : Bool) (why : FolderFault) → RefusesManifest holds (manifest_path folder) why → IsFirstOfFolder holds folder all why
of_manifest holds folder all why h = inl h

pub of_piece : (holds : List ℕ → Entry) (folder : List ℕ) (all : Bool) (shape : EvidenceParts) (forms : List Form) (listed : Result ⊤ FolderFault) (why : FolderFault)
    → (listed ≡ Ok tt → IsShapeAt holds folder shape forms) → ((w : FolderFault) → listed ≡ Err w → IsShapeTo holds folder shape forms w)
    → IsOfPieces (outcomes_of holds folder shape forms) (pieces_of shape) all why → IsFirstOfFolder holds folder all why
of_piece holds folder all shape forms listed why whole front h = inr (inl (record { shape = shape; forms = forms; is = so_far holds folder shape forms listed whole front; refused = h }))

pub of_listing : (holds : List ℕ → Entry) (folder : List ℕ) (all : Bool) (shape : EvidenceParts) (forms : List Form) (why : FolderFault) → IsShapeTo holds folder shape forms why
    → AreOpened (outcomes_of holds folder shape forms) (pieces_of shape) → IsFirstOfFolder holds folder all why
of_listing holds folder all shape forms why is opened = inr (inr (record { shape = shape; forms = forms; is = is; opened = opened }))
