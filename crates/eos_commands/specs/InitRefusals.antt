-- Which refusal is told where no manifest is made: the first, in the order in which things are asked for. That order is a manifest that is
-- there, the words, the folder, the transaction log, the ends, a partition without an end, the parts, the logs of which notes are told, and the
-- manifest's file. Want of memory may come at any time.
use Rattle.std.specs.Prelude.{◌≡◌, ◌⊎◌, ◌≤◌, ◌^◌, ℕ, ℤ, List, [], ◌∷◌, ◌++◌, length, map, Option, None, Some, option_map, true, Ok, Err, string_bytes, ⊤}
use Rattle.std.specs.List.{AllByRecursion}
use Rattle.eos_base.specs.Members.{Has, is_found}
use Rattle.eos_base.specs.PartitionNames.{name_cmp}
use Rattle.eos_base.specs.declared.partition_name.PartitionName.{PartitionName}
use Rattle.eos_disk.specs.Entries.{Entry, HasBytes, MayBeAbsent, MayStand}
use Rattle.eos_disk.specs.Paths.{file_path, manifest_path, path_of_end}
use Rattle.eos_disk.specs.Refusals.{MayRefuse, RefusesFile}
use Rattle.eos_disk.specs.Shapes.{AreLogsAt}
use Rattle.eos_disk.specs.Stopped.{RefusesLogs}
use Rattle.eos_disk.specs.declared.folder.FolderFault.{FolderFault}
use Rattle.eos_disk.specs.declared.names.Form.TheVariants.{Log}
use Rattle.eos_evidence.specs.declared.application.App.{App}
use Rattle.eos_evidence.specs.declared.ends.End.{End}
use Rattle.eos_evidence.specs.SpecFields.{SpecFields, accepted}
use Rattle.eos_manifest.specs.AppWords.{app_in_word}
use Rattle.eos_manifest.specs.Lines.{ends_said_by}
use Rattle.eos_manifest.specs.Manifests.{first_without, parts_for}
use Rattle.eos_commands.specs.Copies.{AreFoldersAt, AreAsked, AreRequired, AreEndsOfCopies, EndsAt, is_states, path_of_name}
use Rattle.eos_disk.specs.GivenTexts.{is_standard, IsTextOf}
use Rattle.eos_commands.specs.Making.{apps_in_words, AreEndsGiven, IsManifestFor}
use Rattle.eos_commands.specs.declared.given.Given.{Given}
use Rattle.eos_commands.specs.declared.init_fault.InitFault.{InitFault}
use Rattle.eos_commands.specs.declared.init_fault.InitFault.TheVariants.{ThereAlready, App as NoApp, Unread, CannotWrite, Line, NoEnd, Apps, Ends, Limit, OutOfMemory}

-- a file or folder isn't read, for such a reason; or memory was refused
abbrev pub RefusesBy : (FolderFault → Type 0) → InitFault → Type 0
RefusesBy P (Unread why) = P why
RefusesBy P (ThereAlready path) = ⊥
RefusesBy P (NoApp at) = ⊥
RefusesBy P (CannotWrite path) = ⊥
RefusesBy P (Line number) = ⊥
RefusesBy P (NoEnd name) = ⊥
RefusesBy P (Apps fault) = ⊥
RefusesBy P (Ends fault) = ⊥
RefusesBy P Limit = ⊥
RefusesBy P OutOfMemory = ⊤

-- what stands at this path isn't read
abbrev pub RefusesAt : (List ℕ → Entry) → List ℕ → FolderFault → Type 0
RefusesAt holds path why = RefusesFile path why × MayRefuse (holds path) why

-- ---- the words

-- the word at this place is the first that gives no application
pub record IsFirstWord (words : List (List ℕ)) (at : ℕ) : Type 0 where
  pub before : List (List ℕ)
  pub word : List ℕ
  pub later : List (List ℕ)
  pub are : words ≡ before ++ word ∷ later
  pub at_is : at ≡ length before
  pub apps : List App
  pub read : apps_in_words before ≡ Some apps
  pub none : app_in_word word ≡ None

-- a word gives no application; or their applications can't stand together
abbrev pub RefusesWords : List (List ℕ) → InitFault → Type 0
RefusesWords words (NoApp at) = IsFirstWord words at
RefusesWords words (Apps fault) = (apps : List App) × (apps_in_words words ≡ Some apps) × (accepted (record { apps = apps; ends = [] }) ≡ Err fault)
RefusesWords words (Unread why) = ⊥
RefusesWords words (ThereAlready path) = ⊥
RefusesWords words (CannotWrite path) = ⊥
RefusesWords words (Line number) = ⊥
RefusesWords words (NoEnd name) = ⊥
RefusesWords words (Ends fault) = ⊥
RefusesWords words Limit = ⊥
RefusesWords words OutOfMemory = ⊤

-- ---- the logs of a copied partition

-- the log in this folder with this first offset is read
abbrev pub IsReadAt : (List ℕ → Entry) → List ℕ → ℤ → Type 0
IsReadAt holds path base = (bytes : List ℕ) × HasBytes (holds (file_path path base Log)) bytes

-- it is of the first of these logs that isn't read
pub record IsFirstUnread (holds : List ℕ → Entry) (path : List ℕ) (bases : List ℤ) (why : FolderFault) : Type 0 where
  pub before : List ℤ
  pub base : ℤ
  pub later : List ℤ
  pub are : bases ≡ before ++ base ∷ later
  pub read : AllByRecursion (IsReadAt holds path) before
  pub refused : RefusesAt holds (file_path path base Log) why

-- the logs of the folder at this path aren't told, or one of them isn't read
abbrev pub RefusesCopy : (List ℕ → Entry) → List ℕ → FolderFault → Type 0
RefusesCopy holds path why = RefusesLogs holds path why ⊎ ((bases : List ℤ) × AreLogsAt holds path bases × IsFirstUnread holds path bases why)

-- it is of the first of these partitions whose records list others and aren't read
pub record RefusesStates (holds : List ℕ → Entry) (folder : List ℕ) (apps : List App) (folders : List PartitionName) (why : InitFault) : Type 0 where
  pub before : List PartitionName
  pub name : PartitionName
  pub later : List PartitionName
  pub are : folders ≡ before ++ name ∷ later
  pub listed : List PartitionName
  pub asked : AreAsked holds folder apps before listed
  pub lists : is_states name.topic ≡ true
  pub refused : RefusesBy (RefusesCopy holds (path_of_name folder name)) why

-- ---- the ends

-- the log of the folder at this path isn't read, or ends past the greatest offset
abbrev pub RefusesEnd : (List ℕ → Entry) → List ℕ → InitFault → Type 0
RefusesEnd holds path (Unread why) = RefusesCopy holds path why
RefusesEnd holds path Limit = (bases : List ℤ) × (end : ℕ) × AreLogsAt holds path bases × EndsAt holds path 0 bases end × (2 ^ 63 ≤ end)
RefusesEnd holds path (ThereAlready at) = ⊥
RefusesEnd holds path (NoApp at) = ⊥
RefusesEnd holds path (CannotWrite at) = ⊥
RefusesEnd holds path (Line number) = ⊥
RefusesEnd holds path (NoEnd name) = ⊥
RefusesEnd holds path (Apps fault) = ⊥
RefusesEnd holds path (Ends fault) = ⊥
RefusesEnd holds path OutOfMemory = ⊤

-- it is of the first of these partitions that has a folder and no end that can be told
pub record RefusesCopies (holds : List ℕ → Entry) (folder : List ℕ) (folders names : List PartitionName) (why : InitFault) : Type 0 where
  pub before : List PartitionName
  pub name : PartitionName
  pub later : List PartitionName
  pub are : names ≡ before ++ name ∷ later
  pub ends : List End
  pub copied : AreEndsOfCopies holds folder folders before ends
  pub there : is_found name_cmp folders name ≡ true
  pub refused : RefusesEnd holds (path_of_name folder name) why

-- a line of the text says no end: this is the number of the first
abbrev pub SaysNoEnd : List ℕ → InitFault → Type 0
SaysNoEnd text (Line number) = ends_said_by text ≡ Err number
SaysNoEnd text (Unread why) = ⊥
SaysNoEnd text (ThereAlready at) = ⊥
SaysNoEnd text (NoApp at) = ⊥
SaysNoEnd text (CannotWrite at) = ⊥
SaysNoEnd text (NoEnd name) = ⊥
SaysNoEnd text (Apps fault) = ⊥
SaysNoEnd text (Ends fault) = ⊥
SaysNoEnd text Limit = ⊥
SaysNoEnd text OutOfMemory = ⊤

-- the lines aren't read, or one says no end
abbrev pub RefusesLines : (List ℕ → Entry) → List ℕ → Option (List ℕ) → Option (List ℕ) → InitFault → Type 0
RefusesLines holds path old new why =
    RefusesBy (RefusesAt holds path) why ⊎ ((text : List ℕ) × IsTextOf (is_standard path) holds path old new text × SaysNoEnd text why)

-- of a file of lines, or of the copied logs
abbrev pub RefusesEnds : Option (List ℕ) → (List ℕ → Entry) → List ℕ → List PartitionName → List PartitionName → Option (List ℕ) → Option (List ℕ) → InitFault → Type 0
RefusesEnds (Some path) holds folder folders required old new why = RefusesLines holds path old new why
RefusesEnds None holds folder folders required old new why = (why ≡ OutOfMemory) ⊎ RefusesCopies holds folder folders required why

-- a partition has to have an end and has none, or the parts are refused
abbrev pub RefusesParts : List App → List PartitionName → List End → InitFault → Type 0
RefusesParts apps required ends (NoEnd name) = first_without ends required ≡ Some name
RefusesParts apps required ends (Ends fault) = (first_without ends required ≡ None) × (accepted (parts_for apps required ends) ≡ Err fault)
RefusesParts apps required ends (Unread why) = ⊥
RefusesParts apps required ends (ThereAlready path) = ⊥
RefusesParts apps required ends (NoApp at) = ⊥
RefusesParts apps required ends (CannotWrite path) = ⊥
RefusesParts apps required ends (Line number) = ⊥
RefusesParts apps required ends (Apps fault) = ⊥
RefusesParts apps required ends Limit = ⊥
RefusesParts apps required ends OutOfMemory = ⊤

-- ---- one after the other

-- what the words ask for: applications that can stand together
pub record AreAskedFor (words : List (List ℕ)) (apps : List App) : Type 0 where
  pub read : apps_in_words words ≡ Some apps
  pub spec : SpecFields
  pub together : accepted (record { apps = apps; ends = [] }) ≡ Ok spec

-- these, and which partitions of the folder have to have an end
pub record IsAsked (given : Given) (holds : List ℕ → Entry) (apps : List App) (folders required : List PartitionName) : Type 0 where
  pub words : AreAskedFor (map (λ w. w.now) given.apps.now) apps
  pub there : AreFoldersAt holds given.folder.now folders
  pub asked : AreRequired holds given.folder.now apps folders required

-- the words ask for applications, and the folder isn't listed
abbrev pub IsOfFolder : Given → (List ℕ → Entry) → InitFault → Type 0
IsOfFolder given holds why = (apps : List App) × AreAskedFor (map (λ w. w.now) given.apps.now) apps × RefusesBy (RefusesAt holds given.folder.now) why

-- it is listed, and the transaction log isn't read
abbrev pub IsOfStates : Given → (List ℕ → Entry) → InitFault → Type 0
IsOfStates given holds why = (apps : List App) × (folders : List PartitionName) × AreAskedFor (map (λ w. w.now) given.apps.now) apps
    × AreFoldersAt holds given.folder.now folders × RefusesStates holds given.folder.now apps folders why

-- it is read, and the ends aren't told
abbrev pub IsOfEnds : Given → (List ℕ → Entry) → Option (List ℕ) → Option (List ℕ) → InitFault → Type 0
IsOfEnds given holds old new why = (apps : List App) × (folders : List PartitionName) × (required : List PartitionName) × IsAsked given holds apps folders required
    × RefusesEnds (option_map (λ p. p.now) given.ends) holds given.folder.now folders required old new why

-- they are told, and the parts aren't those of a manifest
abbrev pub IsOfParts : Given → (List ℕ → Entry) → Option (List ℕ) → Option (List ℕ) → InitFault → Type 0
IsOfParts given holds old new why = (apps : List App) × (folders : List PartitionName) × (required : List PartitionName) × (ends : List End) × IsAsked given holds apps folders required
    × AreEndsGiven (option_map (λ p. p.now) given.ends) holds given.folder.now folders required old new ends × RefusesParts apps required ends why

-- they are, and the log of one of its partitions isn't read, of which a note would be told
abbrev pub IsOfNotes : Given → (List ℕ → Entry) → Option (List ℕ) → Option (List ℕ) → InitFault → Type 0
IsOfNotes given holds old new why = (spec : SpecFields) × (e : End) × IsManifestFor given holds old new spec × Has spec.ends e
    × RefusesBy (RefusesCopy holds (path_of_end given.folder.now e)) why

-- why there is no manifest that could be written
abbrev pub RefusesMaking : Given → (List ℕ → Entry) → Option (List ℕ) → Option (List ℕ) → InitFault → Type 0
RefusesMaking given holds old new why = (why ≡ OutOfMemory) ⊎ (RefusesWords (map (λ w. w.now) given.apps.now) why ⊎ (IsOfFolder given holds why
    ⊎ (IsOfStates given holds why ⊎ (IsOfEnds given holds old new why ⊎ (IsOfParts given holds old new why ⊎ IsOfNotes given holds old new why)))))

-- the manifest can't be put at this path, or something stands there meanwhile
abbrev pub IsUnput : List ℕ → InitFault → Type 0
IsUnput at (ThereAlready path) = string_bytes path ≡ at
IsUnput at (CannotWrite path) = string_bytes path ≡ at
IsUnput at (Unread why) = ⊥
IsUnput at (NoApp place) = ⊥
IsUnput at (Line number) = ⊥
IsUnput at (NoEnd name) = ⊥
IsUnput at (Apps fault) = ⊥
IsUnput at (Ends fault) = ⊥
IsUnput at Limit = ⊥
IsUnput at OutOfMemory = ⊤

-- something stands at the manifest's path
abbrev pub IsThere : (List ℕ → Entry) → List ℕ → InitFault → Type 0
IsThere holds at (ThereAlready path) = (string_bytes path ≡ at) × MayStand (holds at)
IsThere holds at (CannotWrite path) = ⊥
IsThere holds at (Unread why) = ⊥
IsThere holds at (NoApp place) = ⊥
IsThere holds at (Line number) = ⊥
IsThere holds at (NoEnd name) = ⊥
IsThere holds at (Apps fault) = ⊥
IsThere holds at (Ends fault) = ⊥
IsThere holds at Limit = ⊥
IsThere holds at OutOfMemory = ⊤

-- why no manifest is made, or memory was refused: one is there; or none is, and none could be written, or the one that could isn't put there
abbrev pub RefusesInit : Given → (List ℕ → Entry) → Option (List ℕ) → Option (List ℕ) → InitFault → Type 0
RefusesInit given holds old new why = IsThere holds (manifest_path given.folder.now) why ⊎ (MayBeAbsent (holds (manifest_path given.folder.now))
    × (RefusesMaking given holds old new why ⊎ ((spec : SpecFields) × IsManifestFor given holds old new spec × IsUnput (manifest_path given.folder.now) why)))
