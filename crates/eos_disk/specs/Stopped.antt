-- A folder whose listing was refused: its shape as far as it was listed, and at which folder or file the listing ended.
use Rattle.std.specs.Prelude.{◌≡◌, ℕ, ◌≤◌, List, [], ◌∷◌, ◌++◌, map, length, ◌⊎◌, Ok, string_bytes, ⊤}
use Rattle.std.specs.List.{AllByRecursion}
use Rattle.eos_disk.specs.Entries.{Entry, HasBytes}
use Rattle.eos_evidence.specs.declared.partition.Partition.{Partition}
use Rattle.eos_evidence.specs.Evidence.{EvidenceParts, IsEvidence}
use Rattle.eos_evidence.specs.Manifest.{spec_said_by}
use Rattle.eos_disk.specs.declared.cause.Cause.{Cause}
use Rattle.eos_disk.specs.declared.cause.Cause.TheVariants as causes
use Rattle.eos_disk.specs.declared.folder.FolderFault.{FolderFault}
use Rattle.eos_disk.specs.declared.folder.FolderFault.TheVariants as faults
use Rattle.eos_disk.specs.declared.names.FileName.{FileName}
use Rattle.eos_disk.specs.declared.names.Form.{Form}
use Rattle.eos_disk.specs.declared.names.Form.TheVariants.{Log, Fold}
use Rattle.eos_disk.specs.Paths.{manifest_path, path_of_end, file_path}
use Rattle.eos_disk.specs.Refusals.{IsUnread, RefusesFold}
use Rattle.eos_disk.specs.Shapes.{IsFound, IsListed, segment_of}

-- it is that there are more segments than evidence may have, and the file of this path is the first of those
abbrev pub IsManyBy : List ℕ → Cause → Type 0
IsManyBy path (causes.ManySegments named) = string_bytes named ≡ path
IsManyBy path causes.Unknown = ⊥
IsManyBy path causes.NoSuchFile = ⊥
IsManyBy path causes.PermissionDenied = ⊥
IsManyBy path causes.Folder = ⊥
IsManyBy path causes.NotFolder = ⊥
IsManyBy path (causes.Told words) = ⊥
IsManyBy path (causes.Words words) = ⊥
IsManyBy path (causes.LongFile named) = ⊥
IsManyBy path (causes.LongFold named) = ⊥

-- this is the first of these files of a partition, and the next has its base: a log stands beside its fold
pub record IsTwice (files : List FileName) (file : FileName) : Type 0 where
  pub other : FileName
  pub later : List FileName
  pub are : files ≡ file ∷ other ∷ later
  pub same : other.base ≡ file.base

-- After so many segments the first of these files of a partition, whose folder has this path, is refused: there are as many as evidence
-- may have, or a log stands beside its fold.
abbrev pub IsNextRefused : List ℕ → ℕ → List FileName → FolderFault → Type 0
IsNextRefused path many files (faults.Limit cause) =
    (file : FileName) × (later : List FileName) × (files ≡ file ∷ later) × (65536 ≤ many) × IsManyBy (file_path path file.base file.form) cause
IsNextRefused path many files (faults.Fold named name cause) = (file : FileName) × IsTwice files file × (string_bytes named ≡ file_path path file.base Fold)
IsNextRefused path many files (faults.CannotRead named cause) = ⊥
IsNextRefused path many files (faults.Manifest fault cause) = ⊥
IsNextRefused path many files faults.OutOfMemory = ⊤

-- The listing ends in the folder of this path, of which these files were taken: it can't be listed, and none was; or of the files by base
-- that it lists the next is refused.
abbrev pub IsStopped : (List ℕ → Entry) → List ℕ → ℕ → List FileName → FolderFault → Type 0
IsStopped holds path many taken why =
    ((taken ≡ []) × IsUnread path why) ⊎ ((later : List FileName) × IsFound holds path (taken ++ later) × IsNextRefused path many later why)

-- this is the first fold of these files; those before it are logs
pub record IsFirstFold (files : List FileName) (fold : FileName) : Type 0 where
  pub before : List FileName
  pub later : List FileName
  pub are : files ≡ before ++ fold ∷ later
  pub logs : AllByRecursion (λ f. f.form ≡ Log) before
  pub is : fold.form ≡ Fold

-- The logs of the folder of this path aren't told: it can't be listed, or of the files by base that it lists the first fold is refused.
abbrev pub RefusesLogs : (List ℕ → Entry) → List ℕ → FolderFault → Type 0
RefusesLogs holds path why =
    IsUnread path why ⊎ ((files : List FileName) × (fold : FileName) × IsFound holds path files × IsFirstFold files fold × RefusesFold (file_path path fold.base fold.form) why)

-- none of these was listed
abbrev pub AreUnlisted : List Partition → Type 0
AreUnlisted = AllByRecursion (λ p. p.segments ≡ [])

-- partition by partition the segments are those of its folder's files, up to the one at which this refused the listing; after it none was listed
abbrev pub AreListedTo : (List ℕ → Entry) → List ℕ → ℕ → FolderFault → List Partition → List Form → Type 0
AreListedTo holds folder many why [] forms = ⊥
AreListedTo holds folder many why (p ∷ ps) forms =
    ((files : List FileName) × (rest : List Form) × IsListed holds folder p.end files × (p.segments ≡ map (segment_of p.end) files)
    × (forms ≡ map (λ f. f.form) files ++ rest) × AreListedTo holds folder many why ps rest)
    ⊎ ((taken : List FileName) × IsStopped holds (path_of_end folder p.end) many taken why × (p.segments ≡ map (segment_of p.end) taken)
    × (forms ≡ map (λ f. f.form) taken) × AreUnlisted ps)

-- the shape of a folder's evidence as far as it was listed, before this refused to list more of it
pub record IsShapeTo (holds : List ℕ → Entry) (folder : List ℕ) (shape : EvidenceParts) (forms : List Form) (why : FolderFault) : Type 0 where
  pub manifest : List ℕ
  pub stands : HasBytes (holds (manifest_path folder)) manifest
  pub says : spec_said_by manifest ≡ Ok shape.spec
  pub is_evidence : IsEvidence shape
  pub listed : AreListedTo holds folder (length forms) why shape.partitions forms
