-- Rows of the segments around an offset, by their folds.
use Rattle.std.specs.Prelude.{◌≡◌, ◌<◌, ℕ, ◌+◌, ◌-◌, unsigned_abs, List, length, take, drop, count_by, nat_le}
use Rattle.eos_base.specs.declared.partition_name.PartitionName.{PartitionName}
use Rattle.eos_base.specs.Members.{Has}
use Rattle.eos_fold_file.specs.declared.file.FoldFile.{FoldFile}
use Rattle.eos_story.specs.Answers.{StandInOrder}
use Rattle.eos_story.specs.declared.row.Row.{Row}
use Rattle.eos_story.specs.declared.row.Row.TheVariants as rows

-- the name of the segment
abbrev pub begin_of : FoldFile → ℕ
begin_of f = unsigned_abs f.base

abbrev pub folds_begun : ℕ → List FoldFile → ℕ
folds_begun offset folds = count_by (λ (f : FoldFile). nat_le (begin_of f) offset) folds

abbrev pub folds_around : ℕ → List FoldFile → List FoldFile
folds_around offset folds = drop (folds_begun offset folds - 2) (take (folds_begun offset folds + 1) folds)

abbrev pub IsFoldRow : PartitionName → FoldFile → Row → Type 0
IsFoldRow name f row = row ≡ rows.Segment name (begin_of f) f.bytes

-- these have rows, in order; where there are more, a row says how many there are
pub record AreFoldsAround (name : PartitionName) (offset : ℕ) (folds : List FoldFile) (told : List Row) : Type 0 where
  pub in_order : StandInOrder (IsFoldRow name) (folds_around offset folds) told
  pub more : length (folds_around offset folds) < length folds → Has told (rows.MoreSegments name (length (folds_around offset folds)) (length folds))
