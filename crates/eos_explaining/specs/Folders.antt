-- What `explain` writes of the evidence in a folder, and what it tells.
use Rattle.std.specs.Prelude.{◌≡◌, ◌⊎◌, ℕ, true, List, Option, None, Some, string_bytes}
use Rattle.std.specs.Io.KnownBytes.{Appends, Keeps}
use Rattle.eos_verdict.specs.declared.verdict.Counts.{Counts}
use Rattle.eos_verdict.specs.declared.verdict.Verdict.TheVariants.{Yes}
use Rattle.eos_check.specs.Verdicts.{IsVerdict}
use Rattle.eos_base.specs.Members.{Has}
use Rattle.eos_disk.specs.Entries.{Entry}
use Rattle.eos_evidence.specs.declared.partition.Partition.{Partition}
use Rattle.eos_evidence.specs.Evidence.{EvidenceParts}
use Rattle.eos_source.specs.Said.{Known}
use Rattle.eos_source_check.specs.Again.{IsRead, IsThere}
use Rattle.eos_source_check.specs.Folders.{HoldsAsRead, HoldsIn}
use Rattle.eos_text.specs.Writing.{WritesFront}
use Rattle.eos_explaining.specs.declared.folder.Explained.{Explained}
use Rattle.eos_explaining.specs.declared.folder.Explained.TheVariants as told
use Rattle.eos_explaining.specs.Explaining.{IsYes, IsTheStory, AreFewer}

-- the number of the fault that is asked for: the first, where none is said
abbrev pub number_of : Option ℕ → ℕ
number_of None = 1
number_of (Some number) = number

-- there are so many faults, and the one that is asked for is none of them: a yes has none
abbrev pub AreTooFew : EvidenceParts → Option ℕ → ℕ → Type 0
AreTooFew e None count = AreFewer e 1 count
AreTooFew e (Some number) count = AreFewer e number count ⊎ ((count ≡ 0) × (counts : Counts) × IsVerdict e (Yes counts))

-- the line of the yes was written, where no fault was asked for; or the story of the fault; or nothing, and there are fewer faults
abbrev pub IsExplained : List ℕ → EvidenceParts → Option ℕ → Option (List ℕ) → Option (List ℕ) → Explained → Type 0
IsExplained folder e fault old new (told.Yes notes) = (fault ≡ None) × (line : List ℕ) × IsYes e line (string_bytes notes) × Appends old new line
IsExplained folder e fault old new told.Story = (text : List ℕ) × IsTheStory folder e (number_of fault) text × Appends old new text
IsExplained folder e fault old new (told.Fewer count) = AreTooFew e fault count × Keeps old new

-- a front of that line or of that story was written
abbrev pub IsFrontOfExplained : List ℕ → EvidenceParts → Option ℕ → Option (List ℕ) → Option (List ℕ) → Type 0
IsFrontOfExplained folder e fault old new =
    ((fault ≡ None) × (line : List ℕ) × (notes : List ℕ) × IsYes e line notes × WritesFront old new line)
    ⊎ ((text : List ℕ) × IsTheStory folder e (number_of fault) text × WritesFront old new text)

-- ---- as it is read

-- these partitions were read again, each by its name
abbrev pub AreRead : (ℕ → Known) → List Partition → List Partition → Type 0
AreRead known shapes read = (p : Partition) → Has read p → IsRead known shapes p

-- an evidence has them so
abbrev pub HasThem : EvidenceParts → List Partition → Type 0
HasThem e read = (p : Partition) → Has read p → IsThere e.partitions p

-- so it is with each evidence of this shape whose segments are such as the pieces said, and which has the partitions as they were read
-- again: those with faults by themselves, and those that the story names
pub record HoldsAsNamed (known : ℕ → Known) (shape : EvidenceParts) (Holds : EvidenceParts → Type 0) : Type 0 where
  pub read : List Partition
  pub named : AreRead known shape.partitions read
  pub are : HoldsAsRead known shape true (λ e. HasThem e read → Holds e)

-- so it is in this folder
abbrev pub HoldsOf : (List ℕ → Entry) → List ℕ → (EvidenceParts → Type 0) → Type 0
HoldsOf holds folder Holds = HoldsIn holds folder (λ known shape. HoldsAsNamed known shape Holds)
