-- The folds of segments where they lie, and what writing them does to a disk: fold by fold, each whole or not there.
-- Source: Kafka's documentation, "Log" (a partition's folder, and the names of its segments).
use Rattle.std.specs.Prelude.{◌≡◌, ◌⊎◌, ℕ, ℤ, List, [], ◌∷◌, map, true, Some, Ok}
use Rattle.std.specs.List.{flat_map}
use Rattle.eos_base.specs.declared.partition_name.PartitionName.{PartitionName}
use Rattle.eos_disk.specs.Entries.{Entry, HasBytes}
use Rattle.eos_disk.specs.Changes.{AreMade, AreMadeTo}
use Rattle.eos_disk.specs.Putting.{IsPlaced, IsLeft}
use Rattle.eos_evidence.specs.declared.application.App.{App}
use Rattle.eos_evidence.specs.declared.ends.End.{End}
use Rattle.eos_evidence.specs.declared.segment.Segment.{Segment}
use Rattle.eos_fold_file.specs.declared.file.FoldFile.{FoldFile}
use Rattle.eos_fold_file.specs.Files.{fold_text}
use Rattle.eos_fold_file.specs.Folds.{IsFoldOf, IsAskedAs}
use Rattle.eos_fold_file.specs.Reading.{read_fold}
use Rattle.eos_disk.specs.declared.names.Form.TheVariants.{Log, Fold}
use Rattle.eos_disk.specs.Paths.{file_path, partition_path}
use Rattle.eos_disk.specs.Shapes.{AreLogsAt}
use Rattle.eos_manifest.specs.Manifests.{has_end}
use Rattle.eos_reading.specs.declared.wanted.Wanted.{Wanted}
use Rattle.eos_reading.specs.Wanted.{wanted_of}
use Rattle.eos_commands.specs.Paths.{partition_at}
use Rattle.eos_commands.specs.declared.folder.PartitionFolder.{PartitionFolder}

-- ---- which folders are given

-- the folder at this path is that of the partition that its name says, which has an end, and has these logs
pub record IsFolderAt (holds : List ℕ → Entry) (ends : List End) (path : List ℕ) (folder : PartitionFolder) : Type 0 where
  pub path_is : folder.path.now ≡ path
  pub named : partition_at path ≡ Some folder.name
  pub ends_there : has_end ends folder.name ≡ true
  pub logs : AreLogsAt holds path folder.bases.items

abbrev pub AreFoldersAt : (List ℕ → Entry) → List End → List (List ℕ) → List PartitionFolder → Type 0
AreFoldersAt holds ends [] folders = folders ≡ []
AreFoldersAt holds ends (path ∷ paths) folders =
    (folder : PartitionFolder) × (later : List PartitionFolder) × IsFolderAt holds ends path folder × (folders ≡ folder ∷ later) × AreFoldersAt holds ends paths later

-- ---- one fold

-- a log that is to be folded: in which folder it lies, whose it is and with which first offset, and what is wanted of its records
pub record Item : Type 0 where
  pub folder : List ℕ
  pub name : PartitionName
  pub base : ℤ
  pub wanted : Wanted

-- the segment whose bytes these are
abbrev pub segment_of : Item → List ℕ → Segment
segment_of item bytes = record { topic = item.name.topic; partition = item.name.partition; base = item.base; bytes = bytes }

-- the folder of its partition among the folds, and the place of its fold in it
abbrev pub folder_of : List ℕ → Item → List ℕ
folder_of out item = partition_path out item.name.topic item.name.partition

abbrev pub fold_path : List ℕ → Item → List ℕ
fold_path out item = file_path (folder_of out item) item.base Fold

-- the fold of the log that lies in this folder, of what is wanted of its records
pub record IsFoldAt (holds : List ℕ → Entry) (topics : List (List ℕ)) (item : Item) (fold : FoldFile) : Type 0 where
  pub log : List ℕ
  pub stands : HasBytes (holds (file_path item.folder item.base Log)) log
  pub is : IsFoldOf (segment_of item log) fold
  pub asked : IsAskedAs item.wanted topics fold.kept

-- its text, from which it is read again, is put to its place, in a folder that is made if need be, and nothing else changed
pub record IsFoldPut (old : List ℕ → Entry) (topics : List (List ℕ)) (out : List ℕ) (item : Item) (new : List ℕ → Entry) : Type 0 where
  pub fold : FoldFile
  pub is : IsFoldAt old topics item fold
  pub reads : read_fold (fold_text fold) ≡ Ok fold
  pub mid : List ℕ → Entry
  pub made : AreMade old (folder_of out item) mid
  pub placed : IsPlaced mid (fold_path out item) (fold_text fold) new

-- the folder may be made; at the fold's place stands what stood there, and nothing else changed
pub record IsFoldLeft (old : List ℕ → Entry) (out : List ℕ) (item : Item) (new : List ℕ → Entry) : Type 0 where
  pub mid : List ℕ → Entry
  pub made : AreMadeTo old (folder_of out item) mid
  pub text : List ℕ
  pub left : IsLeft mid (fold_path out item) text new

-- ---- all folds

-- these are put, one after the other
abbrev pub Folded : (List ℕ → Entry) → List (List ℕ) → List ℕ → List Item → (List ℕ → Entry) → Type 0
Folded old topics out [] new = new ≡ old
Folded old topics out (item ∷ items) new = (mid : List ℕ → Entry) × IsFoldPut old topics out item mid × Folded mid topics out items new

-- some are put, one after the other, and of one more, it may be, something is left
pub record FoldedInPart (old : List ℕ → Entry) (topics : List (List ℕ)) (out : List ℕ) (new : List ℕ → Entry) : Type 0 where
  pub done : List Item
  pub mid : List ℕ → Entry
  pub folded : Folded old topics out done mid
  pub left : (new ≡ mid) ⊎ ((item : Item) × IsFoldLeft mid out item new)

abbrev pub item_of : Wanted → PartitionFolder → ℤ → Item
item_of wanted folder base = record { folder = folder.path.now; name = folder.name; base = base; wanted = wanted }

abbrev pub items_in : Wanted → PartitionFolder → List Item
items_in wanted folder = map (item_of wanted folder) folder.bases.items

-- the logs of these folders, one after the other, with what the applications want of their topics
abbrev pub items_of : List App → List PartitionFolder → List Item
items_of apps = flat_map (λ folder. items_in (wanted_of apps folder.name.topic) folder)
