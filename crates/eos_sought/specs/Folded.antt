-- Where the batches of a partition stand, by the folds of its segments: in each the first stands at byte 0 and begins at the segment's
-- name, and each other one stands and begins where the one before ends.
-- Source: Kafka's documentation, "Log" (a segment is a run of record batches, named by the offset of its first record).
use Rattle.std.specs.Prelude.{◌≡◌, ⊤, ℕ, ◌+◌, unsigned_abs, List, [], ◌∷◌, filter, Some}
use Rattle.eos_base.specs.declared.partition_name.PartitionName.{PartitionName}
use Rattle.eos_evidence.specs.declared.partition.Partition.{Partition}
use Rattle.eos_evidence.specs.declared.segment.Segment.{Segment}
use Rattle.eos_fold_file.specs.declared.file.FoldFile.{FoldFile}
use Rattle.eos_fold_file.specs.declared.head.FoldHead.{FoldHead}
use Rattle.eos_fold_file.specs.Folds.{IsFoldOf}
use Rattle.eos_fold_file.specs.Heads.{batch_head}
use Rattle.eos_sought.specs.declared.folded.Folded.{Folded}
use Rattle.eos_sought.specs.declared.wanted.Standing.{Standing}
use Rattle.eos_sought.specs.declared.wanted.Wanted.{Wanted}
use Rattle.eos_sought.specs.Partitions.{partition_named}
use Rattle.eos_sought.specs.Wanted.{is_wanted}

-- batches with these heads, from this byte and this offset on
abbrev pub standings : ℕ → ℕ → List FoldHead → List Standing
standings byte next [] = []
standings byte next (h ∷ hs) = (record { byte = byte; head = batch_head next h }) ∷ standings (byte + h.size) (next + h.count) hs

abbrev pub all_in : FoldFile → List Standing
all_in f = standings 0 (unsigned_abs f.base) f.heads

abbrev pub wanted_in : FoldFile → Wanted → List Standing
wanted_in f wanted = filter (λ s. is_wanted wanted s.head) (all_in f)

-- ---- what they are folds of

abbrev pub AreFoldsOf : List Segment → List FoldFile → Type 0
AreFoldsOf [] [] = ⊤
AreFoldsOf [] (f ∷ fs) = ⊥
AreFoldsOf (s ∷ ss) [] = ⊥
AreFoldsOf (s ∷ ss) (f ∷ fs) = IsFoldOf s f × AreFoldsOf ss fs

-- the folds of this partition's segments
pub record IsFolded (p : Partition) (f : Folded) : Type 0 where
  pub end : f.end ≡ p.end
  pub folds : AreFoldsOf p.segments f.folds.items

-- partitions, and the folds of their segments
abbrev pub AreFolded : List Partition → List Folded → Type 0
AreFolded [] [] = ⊤
AreFolded [] (f ∷ fs) = ⊥
AreFolded (p ∷ ps) [] = ⊥
AreFolded (p ∷ ps) (f ∷ fs) = IsFolded p f × AreFolded ps fs

-- the first of these partitions that has this name is folded so
pub record IsNamedBy (ps : List Partition) (name : PartitionName) (f : Folded) : Type 0 where
  pub partition : Partition
  pub named : partition_named name ps ≡ Some partition
  pub folded : IsFolded partition f
