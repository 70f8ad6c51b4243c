-- What stands in a folder of copied logs: which partitions have a folder, which ones the transaction log lists, and where logs end.
-- Sources: Kafka's documentation, "Log" (a partition's folder is named by its topic and number); KIP-98, "Transaction Log".
use Rattle.std.specs.Prelude.{◌≡◌, ◌≢◌, ◌⊎◌, ◌||◌, ◌==◌, ℕ, ℤ, pos, List, [], ◌∷◌, ◌++◌, length, codes, bytes_eq, Bool, true, false, Option, None, Some, IsPermutation, if◌then◌else◌}
use Rattle.std.specs.List.{flat_map}
use Rattle.eos_base.specs.Members.{is_found}
use Rattle.eos_base.specs.PartitionNames.{name_cmp}
use Rattle.eos_base.specs.declared.partition_name.PartitionName.{PartitionName}
use Rattle.eos_disk.specs.Entries.{Entry, HasBytes, HasNames}
use Rattle.eos_evidence.specs.declared.application.App.{App}
use Rattle.eos_evidence.specs.declared.ends.End.{End}
use Rattle.eos_disk.specs.declared.names.Form.TheVariants.{Log}
use Rattle.eos_disk.specs.Paths.{partition_path, file_path}
use Rattle.eos_disk.specs.Shapes.{AreLogsAt}
use Rattle.eos_manifest.specs.Front.{IsFrontTo}
use Rattle.eos_manifest.specs.Lines.{partition_in_name}
use Rattle.eos_manifest.specs.Listing.{IsListing}
use Rattle.eos_manifest.specs.Manifests.{is_judged}

-- ---- folders

abbrev pub name_list : Option (List ℕ × ℤ) → List PartitionName
name_list None = []
name_list (Some place) = record { topic = place.0; partition = place.1 } ∷ []

-- the partitions whose folders have these names
abbrev pub names_in : List (List ℕ) → List PartitionName
names_in = flat_map (λ name. name_list (partition_in_name name))

-- the partitions that have a folder in this one
pub record AreFoldersAt (holds : List ℕ → Entry) (folder : List ℕ) (names : List PartitionName) : Type 0 where
  pub listed : List (List ℕ)
  pub stands : HasNames (holds folder) listed
  pub are : IsPermutation (names_in listed) names

abbrev pub path_of_name : List ℕ → PartitionName → List ℕ
path_of_name folder name = partition_path folder name.topic name.partition

-- ---- what the transaction log lists

-- what the segments with these first offsets list, one after the other
abbrev pub AreListedBy : (List ℕ → Entry) → List ℕ → List ℤ → List PartitionName → Type 0
AreListedBy holds path [] listed = listed ≡ []
AreListedBy holds path (base ∷ bases) listed =
    (bytes : List ℕ) × (here : List PartitionName) × (later : List PartitionName) × HasBytes (holds (file_path path base Log)) bytes
    × IsListing bytes here × (listed ≡ here ++ later) × AreListedBy holds path bases later

-- what the partition lists whose folder is at this path, where it is of the transaction log
abbrev pub AreListedAt : Bool → (List ℕ → Entry) → List ℕ → List PartitionName → Type 0
AreListedAt true holds path listed = (bases : List ℤ) × AreLogsAt holds path bases × AreListedBy holds path bases listed
AreListedAt false holds path listed = listed ≡ []

abbrev pub is_states : List ℕ → Bool
is_states topic = bytes_eq topic (codes "__transaction_state")

-- ---- which partitions have to have an end

-- the partition itself, where its topic is judged or there is no application
abbrev pub own_name : List App → PartitionName → List PartitionName
own_name apps name = if length apps == 0 || is_judged apps name.topic then name ∷ [] else []

-- for each of these that have a folder: itself, and those that it lists
abbrev pub AreAsked : (List ℕ → Entry) → List ℕ → List App → List PartitionName → List PartitionName → Type 0
AreAsked holds folder apps [] asked = asked ≡ []
AreAsked holds folder apps (name ∷ names) asked =
    (listed : List PartitionName) × (later : List PartitionName) × AreListedAt (is_states name.topic) holds (path_of_name folder name) listed
    × (asked ≡ (own_name apps name ++ listed) ++ later) × AreAsked holds folder apps names later

-- the same, in any order
pub record AreRequired (holds : List ℕ → Entry) (folder : List ℕ) (apps : List App) (folders required : List PartitionName) : Type 0 where
  pub asked : List PartitionName
  pub are : AreAsked holds folder apps folders asked
  pub same : (name : PartitionName) → is_found name_cmp required name ≡ is_found name_cmp asked name

-- ---- where copied logs end

-- the front of the segments with these first offsets, begun at an offset, ends at another
abbrev pub EndsAt : (List ℕ → Entry) → List ℕ → ℕ → List ℤ → ℕ → Type 0
EndsAt holds path next [] end = end ≡ next
EndsAt holds path next (base ∷ bases) end =
    ((base ≢ pos next) × (end ≡ next))
    ⊎ ((base ≡ pos next) × (bytes : List ℕ) × (rest : List ℕ) × (after : ℕ) × HasBytes (holds (file_path path base Log)) bytes × IsFrontTo next bytes after rest
    × (((rest ≡ []) × EndsAt holds path after bases end) ⊎ ((rest ≢ []) × (end ≡ after))))

-- the end of a partition is that of its copied log, which begins at 0
pub record IsEndOfCopy (holds : List ℕ → Entry) (folder : List ℕ) (name : PartitionName) (e : End) : Type 0 where
  pub topic : e.topic ≡ name.topic
  pub partition : e.partition ≡ name.partition
  pub bases : List ℤ
  pub logs : AreLogsAt holds (path_of_name folder name) bases
  pub end : ℕ
  pub offset : e.end ≡ pos end
  pub ends : EndsAt holds (path_of_name folder name) 0 bases end

-- that of a partition which has a folder; of others none
abbrev pub IsCopied : Bool → (List ℕ → Entry) → List ℕ → PartitionName → List End → Type 0
IsCopied true holds folder name ends = (e : End) × IsEndOfCopy holds folder name e × (ends ≡ e ∷ [])
IsCopied false holds folder name ends = ends ≡ []

-- the ends of those of these partitions that have a folder
abbrev pub AreEndsOfCopies : (List ℕ → Entry) → List ℕ → List PartitionName → List PartitionName → List End → Type 0
AreEndsOfCopies holds folder folders [] ends = ends ≡ []
AreEndsOfCopies holds folder folders (name ∷ names) ends =
    (here : List End) × (later : List End) × IsCopied (is_found name_cmp folders name) holds folder name here × (ends ≡ here ++ later)
    × AreEndsOfCopies holds folder folders names later
