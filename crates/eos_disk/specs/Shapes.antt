-- The shape of the evidence that stands in a folder of a disk: its manifest, and which segments its partitions' folders list. Of what
-- is unknown nothing is claimed.
use Rattle.std.specs.Prelude.{◌≡◌, ℕ, ℤ, List, [], ◌∷◌, ◌++◌, map, Option, None, Some, Ok, IsPermutation, IsSorted, ⊤, codes}
use Rattle.std.specs.List.{flat_map}
use Rattle.std.specs.Ordering.{int_cmp, on}
use Rattle.std.specs.declared.cmp.Ordering.{Ordering}
use Rattle.eos_base.specs.Members.{Has}
use Rattle.eos_disk.specs.Entries.{Entry, Unknown, Absent, File, Folder, HasBytes, IsKnown}
use Rattle.eos_evidence.specs.declared.ends.End.{End}
use Rattle.eos_evidence.specs.declared.partition.Partition.{Partition}
use Rattle.eos_evidence.specs.declared.segment.Segment.{Segment}
use Rattle.eos_evidence.specs.Evidence.{EvidenceParts, IsEvidence}
use Rattle.eos_evidence.specs.Manifest.{spec_said_by}
use Rattle.eos_base.specs.AllOf.{IsAllOf}
use Rattle.eos_disk.specs.declared.names.FileName.{FileName}
use Rattle.eos_disk.specs.declared.names.Form.{Form}
use Rattle.eos_disk.specs.declared.names.Form.TheVariants.{Log, Fold}
use Rattle.eos_disk.specs.Names.{file_in_name}
use Rattle.eos_disk.specs.Paths.{manifest_path, path_of_end}

-- a folder of these names stands there; where nothing stands there are none
abbrev pub HasListing : Entry → List (List ℕ) → Type 0
HasListing Unknown names = ⊤
HasListing Absent names = names ≡ []
HasListing (File bytes) names = ⊥
HasListing (Folder known) names = names ≡ known

-- one of these names says this file of a segment
abbrev pub IsSaid : List (List ℕ) → FileName → Type 0
IsSaid names file = (name : List ℕ) × Has names name × (file_in_name name ≡ Some file)

-- the files that these names say, all of them, by rising base
abbrev pub AreFilesIn : List (List ℕ) → List FileName → Type 0
AreFilesIn names files = IsAllOf (on (λ f. f.base) int_cmp) (IsSaid names) files

-- the segment of a partition's file, without its bytes
abbrev pub segment_of : End → FileName → Segment
segment_of e file = record { topic = e.topic; partition = e.partition; base = file.base; bytes = [] }

-- ---- what a partition's folder lists

abbrev pub by_base : FileName → FileName → Ordering
by_base a b = int_cmp a.base b.base

abbrev pub file_list : Option FileName → List FileName
file_list None = []
file_list (Some file) = file ∷ []

-- the files that these names say, in the order of the names
abbrev pub files_said : List (List ℕ) → List FileName
files_said = flat_map (λ name. file_list (file_in_name name))

-- the same by base; those of one base, a log and its fold, in any order
pub record AreByBase (names : List (List ℕ)) (files : List FileName) : Type 0 where
  pub sorted : IsSorted by_base files
  pub same : IsPermutation (files_said names) files

-- the files by base that the folder of this path lists
pub record IsFound (holds : List ℕ → Entry) (path : List ℕ) (files : List FileName) : Type 0 where
  pub names : List (List ℕ)
  pub stands : HasListing (holds path) names
  pub are : AreByBase names files

abbrev pub log_base : Form → ℤ → List ℤ
log_base Log base = base ∷ []
log_base Fold base = []

-- the first offsets of those that are logs
abbrev pub log_bases : List FileName → List ℤ
log_bases = flat_map (λ f. log_base f.form f.base)

-- the first offsets of the logs that the folder of this path lists, in order
abbrev pub AreLogsAt : (List ℕ → Entry) → List ℕ → List ℤ → Type 0
AreLogsAt holds path bases = (files : List FileName) × IsFound holds path files × (bases ≡ log_bases files)

-- ---- the shape

-- the files of a partition are those that its folder lists
pub record IsListed (holds : List ℕ → Entry) (folder : List ℕ) (e : End) (files : List FileName) : Type 0 where
  pub names : List (List ℕ)
  pub stands : HasListing (holds (path_of_end folder e)) names
  pub all : AreFilesIn names files

-- of each partition the segments are those of its folder's files; their forms are these, partition by partition
abbrev pub AreListed : (List ℕ → Entry) → List ℕ → List Partition → List Form → Type 0
AreListed holds folder [] forms = forms ≡ []
AreListed holds folder (p ∷ ps) forms =
    (files : List FileName) × (rest : List Form) × IsListed holds folder p.end files × (p.segments ≡ map (segment_of p.end) files)
    × (forms ≡ map (λ f. f.form) files ++ rest) × AreListed holds folder ps rest

-- the evidence without its bytes, and in which form each of its segments stands in the folder
pub record IsShapeAt (holds : List ℕ → Entry) (folder : List ℕ) (shape : EvidenceParts) (forms : List Form) : Type 0 where
  pub manifest : List ℕ
  pub stands : HasBytes (holds (manifest_path folder)) manifest
  pub says : spec_said_by manifest ≡ Ok shape.spec
  pub is_evidence : IsEvidence shape
  pub listed : AreListed holds folder shape.partitions forms

-- it is known what stands below the folder
abbrev pub AreKnown : (List ℕ → Entry) → List ℕ → Type 0
AreKnown holds folder = (below : List ℕ) → IsKnown (holds (folder ++ (codes "/" ++ below)))
