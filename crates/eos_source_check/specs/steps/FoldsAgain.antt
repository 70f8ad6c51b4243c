-- Segments that are read again for their folds.
use Rattle.std.specs.Prelude.{◌≡◌, ◌<◌, ℕ, List, length, take, Option, Some, slice_get, IfSome}
use Rattle.eos_base.specs.declared.partition_name.PartitionName.{PartitionName}
use Rattle.eos_evidence.specs.declared.partition.Partition.{Partition}
use Rattle.eos_evidence.specs.declared.segment.Segment.{Segment}
use Rattle.eos_evidence.specs.Evidence.{segments_of}
use Rattle.eos_fold_file.specs.declared.file.FoldFile.{FoldFile}
use Rattle.eos_fold_file.specs.Folds.{IsFoldOf}
use Rattle.eos_sought.specs.declared.folded.Folded.{Folded}
use Rattle.eos_sought.specs.Folded.{IsFolded}
use Rattle.eos_source.specs.declared.source.Piece.TheVariants as pieces
use Rattle.eos_source.specs.Said.{Said, Known, WillSay}
use Rattle.eos_source_check.specs.Again.{IsLogAgain, IsAgain, IsNamedAgain}

-- a log was opened that will say this, where that is known
abbrev pub IsReaderOf : {R : Type 0} → (R → Option (List ℕ)) → Option Said → R → Type 0
IsReaderOf left said reader = IfSome said (WillSay left (pieces.Log reader))

-- the fold of the segment of this name, as it was read
pub record IsFoldAgain (known : Known) (name : Segment) (fold : FoldFile) : Type 0 where
  pub segment : Segment
  pub again : IsLogAgain known name segment
  pub of : IsFoldOf segment fold

-- those of the partition of this shape
pub record IsFoldedAgain (known : ℕ → Known) (first : ℕ) (shape : Partition) (folded : Folded) : Type 0 where
  pub partition : Partition
  pub again : IsAgain known first shape partition
  pub of : IsFolded partition folded

-- the first partition of this name stands there, and its first piece has this number
pub record IsFoundAt (partitions : List Partition) (name : PartitionName) (place first : ℕ) : Type 0 where
  pub inside : place < length partitions
  pub pieces : first ≡ length (segments_of (take place partitions))
  pub named : (known : ℕ → Known) (shape p : Partition) → slice_get partitions place ≡ Some shape → IsAgain known first shape p → IsNamedAgain known 0 partitions name (Some p)
