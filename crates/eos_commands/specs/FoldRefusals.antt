-- Which refusal is told of folders that are to be folded: the first, in the order in which things are asked for. That order is the manifest,
-- the folders as they are given, then their logs, of which each is read and its fold put before the next. Want of memory may come at any time.
use Rattle.std.specs.Prelude.{◌≡◌, ◌⊎◌, ℕ, ℤ, List, [], ◌∷◌, ◌++◌, map, None, Some, Ok, true, false, string_bytes, ⊤}
use Rattle.std.specs.Borrow.{Bor}
use Rattle.std.specs.List.{AllByRecursion}
use Rattle.eos_base.specs.Members.{is_found}
use Rattle.eos_base.specs.PartitionNames.{name_cmp}
use Rattle.eos_base.specs.declared.partition_name.PartitionName.{PartitionName}
use Rattle.eos_disk.specs.Entries.{Entry, HasBytes, MayBeAbsent, MayStand}
use Rattle.eos_disk.specs.Paths.{file_path, partition_path}
use Rattle.eos_disk.specs.Refusals.{MayRefuse, RefusesFile, RefusesManifest}
use Rattle.eos_disk.specs.declared.change.ChangeFault.TheVariants.{ThereAlready}
use Rattle.eos_disk.specs.declared.folder.FolderFault.{FolderFault}
use Rattle.eos_disk.specs.declared.names.Form.TheVariants.{Log, Fold}
use Rattle.eos_evidence.specs.declared.ends.End.{End}
use Rattle.eos_evidence.specs.SpecFields.{SpecFields}
use Rattle.eos_evidence.specs.Manifest.{spec_said_by}
use Rattle.eos_fold_file.specs.declared.file.FoldFile.{FoldFile}
use Rattle.eos_manifest.specs.Manifests.{has_end}
use Rattle.eos_commits.specs.SourceTopics.{AreSourceTopics}
use Rattle.eos_commands.specs.Folding.{Item, folder_of, fold_path, items_of, IsFolderAt, AreFoldersAt, IsFoldAt, IsFoldLeft, Folded}
use Rattle.eos_commands.specs.Paths.{partition_at}
use Rattle.eos_commands.specs.declared.fold_fault.FoldingFault.{FoldingFault}
use Rattle.eos_commands.specs.declared.fold_fault.FoldingFault.TheVariants.{Unread, NoName, NoEnd, SameName, CannotWrite, OutOfMemory}
use Rattle.eos_commands.specs.declared.folder.PartitionFolder.{PartitionFolder}

-- ---- a folder that is given

-- the place of the fold of the log in this folder with this first offset
abbrev pub fold_in : List ℕ → PartitionFolder → ℤ → List ℕ
fold_in out folder base = file_path (partition_path out folder.name.topic folder.name.partition) base Fold

-- none of its folds is there
abbrev pub IsUnfolded : (List ℕ → Entry) → List ℕ → PartitionFolder → Type 0
IsUnfolded holds out folder = AllByRecursion (λ base. MayBeAbsent (holds (fold_in out folder base))) folder.bases.items

-- no two of these are of one partition
abbrev pub AreApart : List PartitionFolder → Type 0
AreApart [] = ⊤
AreApart (folder ∷ folders) = (is_found name_cmp (map (λ f. f.name) folders) folder.name ≡ false) × AreApart folders

-- the folders at these paths can be folded, as far as it shows before a log is read
pub record AreFit (holds : List ℕ → Entry) (ends : List End) (out : List ℕ) (paths : List (List ℕ)) (folders : List PartitionFolder) : Type 0 where
  pub found : AreFoldersAt holds ends paths folders
  pub apart : AreApart folders
  pub unfolded : AllByRecursion (IsUnfolded holds out) folders

-- at this path is the first of its folds that is there
pub record IsFoldedTo (holds : List ℕ → Entry) (out : List ℕ) (folder : PartitionFolder) (path : List ℕ) : Type 0 where
  pub before : List ℤ
  pub base : ℤ
  pub later : List ℤ
  pub are : folder.bases.items ≡ before ++ base ∷ later
  pub unfolded : AllByRecursion (λ b. MayBeAbsent (holds (fold_in out folder b))) before
  pub at : path ≡ fold_in out folder base
  pub there : MayStand (holds path)

-- one of its folds is there
abbrev pub RefusesFolded : (List ℕ → Entry) → List ℕ → PartitionFolder → FoldingFault → Type 0
RefusesFolded holds out folder (CannotWrite path why) = IsFoldedTo holds out folder (string_bytes path) × (why ≡ ThereAlready)
RefusesFolded holds out folder (Unread why) = ⊥
RefusesFolded holds out folder (NoName path) = ⊥
RefusesFolded holds out folder (NoEnd path) = ⊥
RefusesFolded holds out folder (SameName path) = ⊥
RefusesFolded holds out folder OutOfMemory = ⊤

-- it is of the partition of one before it
abbrev pub RefusesSecond : List PartitionFolder → PartitionFolder → FoldingFault → Type 0
RefusesSecond before folder why = (path : Bor (List ℕ)) × (why ≡ SameName path) × (path.now ≡ folder.path.now) × (is_found name_cmp (map (λ f. f.name) before) folder.name ≡ true)

-- the last part of its path names no partition, or one that has no end; or the folder isn't listed
abbrev pub RefusesFolder : List End → List ℕ → FoldingFault → Type 0
RefusesFolder ends folder (Unread why) = (name : PartitionName) × (partition_at folder ≡ Some name) × (has_end ends name ≡ true) × RefusesFile folder why
RefusesFolder ends folder (NoName path) = (path.now ≡ folder) × (partition_at folder ≡ None)
RefusesFolder ends folder (NoEnd path) = (path.now ≡ folder) × (name : PartitionName) × (partition_at folder ≡ Some name) × (has_end ends name ≡ false)
RefusesFolder ends folder (SameName path) = ⊥
RefusesFolder ends folder (CannotWrite path why) = ⊥
RefusesFolder ends folder OutOfMemory = ⊤

-- why the folder of this path can't be folded after these: it is no partition's, it is a second one, or else a fold of its is there
abbrev pub RefusesGiven : (List ℕ → Entry) → List End → List ℕ → List PartitionFolder → List ℕ → FoldingFault → Type 0
RefusesGiven holds ends out before path why =
    RefusesFolder ends path why ⊎ ((folder : PartitionFolder) × IsFolderAt holds ends path folder
    × (RefusesSecond before folder why ⊎ ((is_found name_cmp (map (λ f. f.name) before) folder.name ≡ false) × RefusesFolded holds out folder why)))

-- it is of the first of these paths that is refused; those before it fit
pub record IsFirstGiven (holds : List ℕ → Entry) (ends : List End) (out : List ℕ) (paths : List (List ℕ)) (why : FoldingFault) : Type 0 where
  pub before : List (List ℕ)
  pub path : List ℕ
  pub later : List (List ℕ)
  pub are : paths ≡ before ++ path ∷ later
  pub folders : List PartitionFolder
  pub fit : AreFit holds ends out before folders
  pub refused : RefusesGiven holds ends out folders path why

-- ---- a log

-- what stands at this path, or is to, isn't written; or memory was refused
abbrev pub IsUnwritten : List ℕ → FoldingFault → Type 0
IsUnwritten at (CannotWrite path why) = string_bytes path ≡ at
IsUnwritten at (Unread why) = ⊥
IsUnwritten at (NoName path) = ⊥
IsUnwritten at (NoEnd path) = ⊥
IsUnwritten at (SameName path) = ⊥
IsUnwritten at OutOfMemory = ⊤

-- the log at this path isn't read; or memory was refused
abbrev pub IsUnreadLog : (List ℕ → Entry) → List ℕ → FoldingFault → Type 0
IsUnreadLog holds at (Unread why) = RefusesFile at why × MayRefuse (holds at) why
IsUnreadLog holds at (NoName path) = ⊥
IsUnreadLog holds at (NoEnd path) = ⊥
IsUnreadLog holds at (SameName path) = ⊥
IsUnreadLog holds at (CannotWrite path why) = ⊥
IsUnreadLog holds at OutOfMemory = ⊤

-- a log isn't read; or it is, and the folder of its fold isn't made, or the fold isn't put there
abbrev pub RefusesLog : (List ℕ → Entry) → List (List ℕ) → List ℕ → Item → FoldingFault → Type 0
RefusesLog holds topics out item why =
    IsUnreadLog holds (file_path item.folder item.base Log) why
    ⊎ ((fold : FoldFile) × IsFoldAt holds topics item fold × (IsUnwritten (folder_of out item) why ⊎ IsUnwritten (fold_path out item) why))

-- it is of the first of these logs that is refused; the folds of those before it are put, and of its own that is left which may be
pub record IsFirstLog (old : List ℕ → Entry) (topics : List (List ℕ)) (out : List ℕ) (items : List Item) (new : List ℕ → Entry) (why : FoldingFault) : Type 0 where
  pub before : List Item
  pub item : Item
  pub later : List Item
  pub are : items ≡ before ++ item ∷ later
  pub mid : List ℕ → Entry
  pub folded : Folded old topics out before mid
  pub refused : RefusesLog mid topics out item why
  pub left : IsFoldLeft mid out item new

-- ---- all

-- the manifest isn't read
abbrev pub IsOfManifest : (List ℕ → Entry) → List ℕ → FoldingFault → Type 0
IsOfManifest holds manifest why = (fault : FolderFault) × (why ≡ Unread fault) × RefusesManifest holds manifest fault

-- by the parts of a manifest it is of the first folder that is refused; or of the first log, where none is
abbrev pub RefusesByParts : (List ℕ → Entry) → SpecFields → List ℕ → List (List ℕ) → (List ℕ → Entry) → FoldingFault → Type 0
RefusesByParts old spec out paths new why = IsFirstGiven old spec.ends out paths why
    ⊎ ((folders : List PartitionFolder) × (topics : List (List ℕ)) × AreFit old spec.ends out paths folders × AreSourceTopics spec.apps topics
    × IsFirstLog old topics out (items_of spec.apps folders) new why)

-- the manifest says its parts, and by these it is refused
pub record IsOfFolders (old : List ℕ → Entry) (manifest out : List ℕ) (paths : List (List ℕ)) (new : List ℕ → Entry) (why : FoldingFault) : Type 0 where
  pub text : List ℕ
  pub spec : SpecFields
  pub stands : HasBytes (old manifest) text
  pub says : spec_said_by text ≡ Ok spec
  pub refused : RefusesByParts old spec out paths new why

-- why folders aren't folded, or memory was refused
abbrev pub RefusesFolds : (List ℕ → Entry) → List ℕ → List ℕ → List (List ℕ) → (List ℕ → Entry) → FoldingFault → Type 0
RefusesFolds old manifest out paths new why = (why ≡ OutOfMemory) ⊎ (IsOfManifest old manifest why ⊎ IsOfFolders old manifest out paths new why)
