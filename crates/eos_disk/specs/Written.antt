-- What stands in a new folder into which evidence was written: its files and no others.
use Rattle.std.specs.Prelude.{◌≡◌, ◌≢◌, ◌↔◌, ℕ, List, ◌∷◌, ◌++◌, codes, map, ⊤, Ok, Bool, ◌==◌, false}
use Rattle.std.specs.List.{flat_map, list_any, AllByRecursion}
use Rattle.eos_base.specs.Members.{Has}
use Rattle.eos_disk.specs.Entries.{Entry, Unknown, Absent, File, Folder, HasBytes, MayBeAbsent}
use Rattle.eos_disk.specs.Changes.{IsFolder}
use Rattle.eos_disk.specs.Putting.{beside}
use Rattle.eos_evidence.specs.declared.partition.Partition.{Partition}
use Rattle.eos_evidence.specs.Evidence.{EvidenceParts, segments_of}
use Rattle.eos_evidence.specs.Manifest.{spec_said_by}
use Rattle.eos_disk.specs.Paths.{manifest_path, path_of_end, segment_path}
use Rattle.eos_disk.specs.Reading.{HasItsBytes}
use Rattle.eos_disk.specs.declared.names.Form.TheVariants.{Log}

-- what is called so in a folder
abbrev pub below : List ℕ → List ℕ → List ℕ
below folder name = folder ++ (codes "/" ++ name)

-- nothing stands in the folder
abbrev pub IsEmptyAt : (List ℕ → Entry) → List ℕ → Type 0
IsEmptyAt holds folder = (name : List ℕ) → MayBeAbsent (holds (below folder name))

-- where a partition is written: its folder, and in it its logs
abbrev pub places_of : List ℕ → Partition → List (List ℕ)
places_of folder p = path_of_end folder p.end ∷ map (λ s. segment_path folder s Log) p.segments

abbrev pub all_places : List ℕ → List Partition → List (List ℕ)
all_places folder ps = flat_map (places_of folder) ps

-- each partition's folder with its logs, and the manifest; beside it, it may be, that text once more; and nothing else
pub record HoldsJust (holds : List ℕ → Entry) (folder : List ℕ) (e : EvidenceParts) : Type 0 where
  pub text : List ℕ
  pub manifest : HasBytes (holds (manifest_path folder)) text
  pub says : spec_said_by text ≡ Ok e.spec
  pub folders : AllByRecursion (λ p. IsFolder (holds (path_of_end folder p.end))) e.partitions
  pub logs : AllByRecursion (HasItsBytes holds folder) (segments_of e.partitions)
  pub nothing_else : (name : List ℕ) → (Has (all_places folder e.partitions) (below folder name) → ⊥) → below folder name ≢ manifest_path folder
      → below folder name ≢ beside (manifest_path folder) → MayBeAbsent (holds (below folder name))

-- ---- what a disk lists

-- something stands there
abbrev pub IsThere : Entry → Type 0
IsThere Unknown = ⊥
IsThere Absent = ⊥
IsThere (File bytes) = ⊤
IsThere (Folder names) = ⊤

abbrev pub has_slash : List ℕ → Bool
has_slash name = list_any (λ c. c == 47) name

-- the names in a folder are just those under which something stands right in it
abbrev pub HasListings : (List ℕ → Entry) → Type 0
HasListings holds = (folder : List ℕ) (names : List (List ℕ)) → holds folder ≡ Folder names
    → (name : List ℕ) → Has names name ↔ ((has_slash name ≡ false) × IsThere (holds (below folder name)))
