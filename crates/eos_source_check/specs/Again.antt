-- Partitions that are read again from a source, of whose logs no bytes were kept.
use Rattle.std.specs.Prelude.{◌≡◌, ℕ, suc, ◌+◌, List, [], ◌∷◌, length, Bool, true, false, Option, None, Some, ⊤}
use Rattle.eos_base.specs.declared.partition_name.PartitionName.{PartitionName}
use Rattle.eos_evidence.specs.declared.partition.Partition.{Partition}
use Rattle.eos_evidence.specs.declared.segment.Segment.{Segment}
use Rattle.eos_kept.specs.declared.part.Told.{Told}
use Rattle.eos_kept.specs.Parts.{IsTold}
use Rattle.eos_reading.specs.declared.wanted.Wanted.TheVariants.{Texts}
use Rattle.eos_sought.specs.declared.folded.Folded.{Folded}
use Rattle.eos_sought.specs.Folded.{IsFolded}
use Rattle.eos_sought.specs.Partitions.{is_named, partition_named}
use Rattle.eos_source.specs.Said.{Log, Known, IsAsKnown}
use Rattle.eos_source.specs.Shapes.{IsPiece}

-- a segment of this name, whose piece is a log with its bytes, of which so much is known
pub record IsLogAgain (known : Known) (name segment : Segment) : Type 0 where
  pub piece : IsPiece (Log segment.bytes) name segment
  pub as_known : IsAsKnown known (Log segment.bytes)

-- segments of these names, the first of which is the piece of this number
abbrev pub AreLogsAgain : (ℕ → Known) → ℕ → List Segment → List Segment → Type 0
AreLogsAgain known piece [] [] = ⊤
AreLogsAgain known piece [] (segment ∷ segments) = ⊥
AreLogsAgain known piece (name ∷ names) [] = ⊥
AreLogsAgain known piece (name ∷ names) (segment ∷ segments) = IsLogAgain (known piece) name segment × AreLogsAgain known (suc piece) names segments

-- the partition of this shape
pub record IsAgain (known : ℕ → Known) (piece : ℕ) (shape p : Partition) : Type 0 where
  pub end : p.end ≡ shape.end
  pub logs : AreLogsAgain known piece shape.segments p.segments

-- partitions of these shapes, where they were read again, each at its place
abbrev pub AreAgain : (ℕ → Known) → ℕ → List Partition → List (Option Partition) → Type 0
AreAgain known piece shapes [] = ⊤
AreAgain known piece [] (one ∷ more) = ⊥
AreAgain known piece (shape ∷ shapes) (None ∷ more) = AreAgain known (piece + length shape.segments) shapes more
AreAgain known piece (shape ∷ shapes) (Some p ∷ more) = IsAgain known piece shape p × AreAgain known (piece + length shape.segments) shapes more

-- of these partitions those that were read again are as they were then
abbrev pub AreThere : List (Option Partition) → List Partition → Type 0
AreThere [] ps = ⊤
AreThere (one ∷ more) [] = ⊥
AreThere (None ∷ more) (p ∷ ps) = AreThere more ps
AreThere (Some again ∷ more) (p ∷ ps) = (p ≡ again) × AreThere more ps

-- ---- one partition, by its name

abbrev pub IsReadOf : (ℕ → Known) → ℕ → Partition → Option Partition → Type 0
IsReadOf known piece shape None = ⊥
IsReadOf known piece shape (Some p) = IsAgain known piece shape p

abbrev pub IsReadIf : Bool → Type 0 → Type 0 → Type 0
IsReadIf true here others = here
IsReadIf false here others = others

-- the first partition of this name among these shapes, as it was read again; none where there is no such partition
abbrev pub IsNamedAgain : (ℕ → Known) → ℕ → List Partition → PartitionName → Option Partition → Type 0
IsNamedAgain known piece [] name read = read ≡ None
IsNamedAgain known piece (shape ∷ shapes) name read = IsReadIf (is_named name shape) (IsReadOf known piece shape read) (IsNamedAgain known (piece + length shape.segments) shapes name read)

abbrev pub name_of : Partition → PartitionName
name_of p = record { topic = p.end.topic; partition = p.end.partition }

-- a partition that was read again by its name
abbrev pub IsRead : (ℕ → Known) → List Partition → Partition → Type 0
IsRead known shapes p = IsNamedAgain known 0 shapes (name_of p) (Some p)

-- these partitions have it as it was read again
abbrev pub IsThere : List Partition → Partition → Type 0
IsThere ps p = partition_named (name_of p) ps ≡ Some p

-- ---- its log, with the keys, values and claims of its records

-- it is that of this partition, or there is none
abbrev pub AreTextsOfRead : Option Partition → Option Told → Type 0
AreTextsOfRead None None = ⊤
AreTextsOfRead None (Some told) = ⊥
AreTextsOfRead (Some p) None = ⊥
AreTextsOfRead (Some p) (Some told) = IsTold Texts p.end p.segments told

-- the first partition of this name was read again, and this is its log
pub record AreTextsNamed (known : ℕ → Known) (shapes : List Partition) (name : PartitionName) (told : Option Told) : Type 0 where
  pub read : Option Partition
  pub again : IsNamedAgain known 0 shapes name read
  pub are : AreTextsOfRead read told

-- ---- the folds of its segments

-- they are those of this partition, or there is none
abbrev pub AreFoldsOfRead : Option Partition → Option Folded → Type 0
AreFoldsOfRead None None = ⊤
AreFoldsOfRead None (Some f) = ⊥
AreFoldsOfRead (Some p) None = ⊥
AreFoldsOfRead (Some p) (Some f) = IsFolded p f

-- the first partition of this name was read again, and these are the folds of its segments
pub record AreFoldsNamed (known : ℕ → Known) (shapes : List Partition) (name : PartitionName) (folded : Option Folded) : Type 0 where
  pub read : Option Partition
  pub again : IsNamedAgain known 0 shapes name read
  pub are : AreFoldsOfRead read folded
