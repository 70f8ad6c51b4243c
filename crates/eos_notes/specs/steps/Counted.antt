-- What is worked out of one partition.
use Rattle.std.specs.Prelude.{◌≡◌, ℕ, ℤ, pos, Bool, List, [], if◌then◌else◌, int_lt, filter, length, map}
use Rattle.eos_base.specs.declared.partition_name.PartitionName.{PartitionName}
use Rattle.eos_claims.specs.Outputs.{committed_offset}
use Rattle.eos_evidence.specs.declared.application.App.{App}
use Rattle.eos_fold.specs.declared.item.Item.{Item}
use Rattle.eos_fold.specs.Parts.{PartLog, part_name}
use Rattle.eos_commits.specs.Commits.{Group, Topic}
use Rattle.eos_commits.specs.Visible.{is_visible}
use Rattle.eos_commits.specs.EvidenceLogs.{commits_for}
use Rattle.eos_commits.specs.Applications.{is_part_of}
use Rattle.eos_notes.specs.declared.note.Note.{Note}
use Rattle.eos_notes.specs.CommitNotes.{past_end_at}

-- of a source topic's partition, by the committed offset of each
abbrev pub past_end_if : List Topic → Group → (PartitionName → ℤ) → PartLog → List Note
past_end_if sources group committed p = if is_part_of sources p then past_end_at group p (committed (part_name p)) else []

-- the record is below the offset
abbrev pub is_below : ℤ → Item → Bool
is_below offset x = int_lt (pos x.offset) offset

-- so many visible records
abbrev pub count_visible : List Item → ℕ
count_visible items = length (filter (λ x. is_visible x.fate) items)

-- so many of them below the offset
abbrev pub count_below : ℤ → List Item → ℕ
count_below offset items = length (filter (is_below offset) (filter (λ x. is_visible x.fate) items))

-- what an application's group has committed of each partition, in the order of the partitions
abbrev pub AreOffsetsFor : List PartLog → App → List ℤ → Type 0
AreOffsetsFor parts app offsets = offsets ≡ map (committed_offset (commits_for parts app)) (map part_name parts)
