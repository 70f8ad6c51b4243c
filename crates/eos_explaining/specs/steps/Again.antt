-- Partitions that a story names, and which of them were read again, by the folds of their segments.
use Rattle.std.specs.Prelude.{◌≡◌, ◌⊎◌, ⊤, ℕ, List, [], ◌∷◌, Bool, false, Option, None, Some, option_map, slice_get}
use Rattle.eos_base.specs.Members.{Has}
use Rattle.eos_base.specs.declared.partition_name.PartitionName.{PartitionName}
use Rattle.eos_batch.specs.declared.record.Header.{Header}
use Rattle.eos_claims.specs.declared.place.Place.{Place}
use Rattle.eos_evidence.specs.declared.partition.Partition.{Partition}
use Rattle.eos_evidence.specs.Evidence.{EvidenceParts, IsEvidence}
use Rattle.eos_notes.specs.Notes.{AreAllNotes}
use Rattle.eos_sought.specs.declared.folded.Folded.{Folded}
use Rattle.eos_sought.specs.Folded.{IsFolded, AreFolded, IsNamedBy}
use Rattle.eos_sought.specs.Partitions.{partition_named}
use Rattle.eos_source.specs.Said.{Known}
use Rattle.eos_source_check.specs.Again.{IsRead, IsThere, AreFoldsNamed}
use Rattle.eos_verdict.specs.Counts.{counts_line}
use Rattle.eos_verdict.specs.declared.verdict.Verdict.{Verdict}
use Rattle.eos_story.specs.Names.{name_in}
use Rattle.eos_story.specs.Rows.{AreHeadersOf}
use Rattle.eos_story.specs.declared.row.Row.{Row}
use Rattle.eos_explaining.specs.declared.story.About.{About}
use Rattle.eos_explaining.specs.Explaining.{IsStoryOf}
use Rattle.eos_explaining.specs.Folders.{AreRead, HasThem}

-- these are the folds of a partition that was read again by its name
pub record IsFoldRead (known : ℕ → Known) (shapes : List Partition) (f : Folded) : Type 0 where
  pub partition : Partition
  pub read : IsRead known shapes partition
  pub of : IsFolded partition f

-- and an evidence has it so
pub record IsFoldThere (e : EvidenceParts) (f : Folded) : Type 0 where
  pub partition : Partition
  pub there : IsThere e.partitions partition
  pub of : IsFolded partition f

abbrev pub HasFolds : EvidenceParts → List Folded → Type 0
HasFolds e read = (f : Folded) → Has read f → IsFoldThere e f

-- the partition of this name was read again, or there is none
abbrev pub IsCovered : List Partition → List Folded → PartitionName → Type 0
IsCovered shapes read name = ((f : Folded) × ((ps : List Partition) → AreFolded ps read → IsNamedBy ps name f)) ⊎ (partition_named name shapes ≡ None)

abbrev pub IsCoveredIf : List Partition → List Folded → Option PartitionName → Type 0
IsCoveredIf shapes read None = ⊤
IsCoveredIf shapes read (Some name) = IsCovered shapes read name

-- each that these rows name
abbrev pub AreCovered : List Partition → List Folded → List Row → Type 0
AreCovered shapes read rows = (row : Row) → Has rows row → IsCoveredIf shapes read (name_in row)

-- one was read by this name, or it is one of these
abbrev pub IsNamedOrRead : List Folded → List PartitionName → Option PartitionName → Type 0
IsNamedOrRead read names None = ⊤
IsNamedOrRead read names (Some name) = ((f : Folded) × ((ps : List Partition) → AreFolded ps read → IsNamedBy ps name f)) ⊎ Has names name

-- so it is with each row that names one
abbrev pub AreNamedOrRead : List Folded → List PartitionName → (Row → Option PartitionName) → List Row → Type 0
AreNamedOrRead read names named_by rows = (row : Row) → Has rows row → IsNamedOrRead read names (named_by row)

-- these are the folds of the partition of this number among those named
abbrev pub AreFoldsAt : (ℕ → Known) → List Partition → List PartitionName → ℕ → Option Folded → Type 0
AreFoldsAt known shapes names number folds = (name : PartitionName) → slice_get names number ≡ Some name → AreFoldsNamed known shapes name folds

-- there is none of these names, and so none was read
pub record AreAbsent (shapes : List Partition) (before after : List Folded) (names : List PartitionName) : Type 0 where
  pub same : after ≡ before
  pub none : (name : PartitionName) → Has names name → partition_named name shapes ≡ None

-- and that in which a fault stands
abbrev pub AreNamedCovered : List Partition → List Folded → Option Place → List Row → Type 0
AreNamedCovered shapes read place rows = IsCoveredIf shapes read (option_map (λ (p : Place). p.partition) place) × AreCovered shapes read rows

-- what was read is still there
abbrev pub AreKept : List Folded → List Folded → Type 0
AreKept before after = (f : Folded) → Has before f → Has after f

-- and what is new was read again by its name
pub record ReadsMore (known : ℕ → Known) (shapes : List Partition) (before after : List Folded) : Type 0 where
  pub kept : AreKept before after
  pub come : (f : Folded) → Has after f → Has before f ⊎ IsFoldRead known shapes f

-- no further one was read, and so it is
pub record IsSettled (before after : List Folded) (Covers : List Folded → Type 0) : Type 0 where
  pub same : after ≡ before
  pub covers : Covers after

-- where none was read
abbrev pub SettledIf : List Folded → List Folded → (List Folded → Type 0) → Bool → Type 0
SettledIf before after Covers more = more ≡ false → IsSettled before after Covers

-- the headers of the record of a place, by the bytes of its partition, as it was read again for them
pub record AreHeadersThere (known : ℕ → Known) (shape : EvidenceParts) (read : List Folded) (place : Option Place) (headers : List Header) : Type 0 where
  pub also : List Partition
  pub read_also : AreRead known shape.partitions also
  pub are : (e : EvidenceParts) → IsEvidence shape → IsEvidence e → e.spec ≡ shape.spec → HasFolds e read → HasThem e also → (p : Place) → place ≡ Some p → AreHeadersOf e.partitions p headers

-- the story of the fault that this verdict names, in each evidence of this spec that has these partitions as they were read again
pub record IsToldBy (known : ℕ → Known) (shape : EvidenceParts) (read : List Folded) (about : About) (verdict : Verdict) (text : List ℕ) : Type 0 where
  pub also : List Partition
  pub read_also : AreRead known shape.partitions also
  pub told : (e : EvidenceParts) → IsEvidence e → e.spec ≡ shape.spec → HasFolds e read → HasThem e also → AreAllNotes e about.notes.now → (told : List Verdict) → about.counts.now ≡ counts_line told
      → IsStoryOf about.folder.now e about.logs.now told verdict text

-- those of the faults that these verdicts name
abbrev pub AreToldBy : (ℕ → Known) → EvidenceParts → List Folded → About → List Verdict → List (List ℕ) → Type 0
AreToldBy known shape read about [] [] = ⊤
AreToldBy known shape read about [] (t ∷ ts) = ⊥
AreToldBy known shape read about (v ∷ vs) [] = ⊥
AreToldBy known shape read about (v ∷ vs) (t ∷ ts) = IsToldBy known shape read about v t × AreToldBy known shape read about vs ts
