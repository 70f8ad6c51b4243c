-- The listing of a folder step by step: the names of a partition's folder, the files that they say, the segments of all partitions.
use Rattle.std.specs.Prelude.{◌≡◌, ◌≢◌, ℕ, List, [], ◌∷◌, ◌++◌, map, length, IsSorted, ⊤}
use Rattle.std.specs.List.Sorted.{IsStrictlySortedBy}
use Rattle.eos_disk.specs.Entries.{Entry}
use Rattle.eos_evidence.specs.declared.ends.End.{End}
use Rattle.eos_evidence.specs.declared.partition.Partition.{Partition}
use Rattle.eos_evidence.specs.declared.segment.Segment.{Segment}
use Rattle.eos_evidence.specs.Evidence.{with_segment, empty_partition}
use Rattle.eos_disk.specs.declared.folder.FolderFault.{FolderFault}
use Rattle.eos_disk.specs.declared.names.FileName.{FileName}
use Rattle.eos_disk.specs.declared.names.Form.{Form}
use Rattle.eos_disk.specs.Paths.{path_of_end}
use Rattle.eos_disk.specs.Shapes.{IsListed, segment_of, by_base}
use Rattle.eos_disk.specs.Stopped.{IsNextRefused, IsStopped}

-- the next file, if there is one, is of another base
abbrev pub IsApart : List FileName → Type 0
IsApart [] = ⊤
IsApart (f ∷ []) = ⊤
IsApart (f ∷ g ∷ fs) = f.base ≢ g.base

-- each file is of another base than the next
abbrev pub AreApart : List FileName → Type 0
AreApart [] = ⊤
AreApart (f ∷ fs) = IsApart (f ∷ fs) × AreApart fs

-- the segments of these ends, one partition after the other, and their forms
abbrev pub AreNamed : (List ℕ → Entry) → List ℕ → List End → List Segment → List Form → Type 0
AreNamed holds folder [] names forms = (names ≡ []) × (forms ≡ [])
AreNamed holds folder (e ∷ es) names forms =
    (files : List FileName) × (later : List Segment) × (rest : List Form) × IsListed holds folder e files × (names ≡ map (segment_of e) files ++ later)
    × (forms ≡ map (λ f. f.form) files ++ rest) × AreNamed holds folder es later rest

-- of these files of a partition, whose folder has this path, a front was taken, and then this refused the next one
pub record IsTakenTo (e : End) (path : List ℕ) (files : List FileName) (names more : List Segment) (forms further : List Form) (why : FolderFault) : Type 0 where
  pub taken : List FileName
  pub later : List FileName
  pub parts : files ≡ taken ++ later
  pub rises : IsSorted by_base files → IsStrictlySortedBy by_base taken
  pub next : IsNextRefused path (length more) later why
  pub named : more ≡ names ++ map (segment_of e) taken
  pub formed : further ≡ forms ++ map (λ f. f.form) taken

-- the segments of these ends up to the one in whose folder this refused the listing
pub record IsCut (holds : List ℕ → Entry) (folder : List ℕ) (ends : List End) (names : List Segment) (forms : List Form) (why : FolderFault) : Type 0 where
  pub front : List End
  pub end : End
  pub back : List End
  pub parts : ends ≡ front ++ end ∷ back
  pub early : List Segment
  pub early_forms : List Form
  pub before : AreNamed holds folder front early early_forms
  pub taken : List FileName
  pub rises : IsStrictlySortedBy by_base taken
  pub stopped : IsStopped holds (path_of_end folder end) (length names) taken why
  pub named : names ≡ early ++ map (segment_of end) taken
  pub formed : forms ≡ early_forms ++ map (λ f. f.form) taken

-- a partition with these segments more, one after the other
abbrev pub grown : Partition → List Segment → Partition
grown p [] = p
grown p (s ∷ ss) = grown (with_segment s p) ss

-- for each end its partition with those of these segments that are its own
abbrev pub partitions_with : List Segment → List End → List Partition
partitions_with segments = map (λ e. grown (empty_partition e) segments)
