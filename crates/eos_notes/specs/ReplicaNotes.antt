-- A sign that segments of two replicas stand in one partition: its leader epoch falls. Each batch has the epoch of the leader that
-- appended it (Kafka's documentation, Message Format, "Record Batch", partitionLeaderEpoch), and along a replica's log epochs only rise
-- (KIP-101), so no broker writes that.
use Rattle.std.specs.Prelude.{ℕ, ℤ, Bool, false, List, [], ◌∷◌, ◌++◌, int_lt, Option, Some, None, if◌then◌else◌}
use Rattle.eos_base.specs.declared.partition_name.PartitionName.{PartitionName}
use Rattle.eos_reading.specs.declared.epoch.EpochEntry.{EpochEntry}
use Rattle.eos_notes.specs.declared.note.Note.{Note}
use Rattle.eos_notes.specs.declared.note.Note.TheVariants.{EpochFalls}

-- ---- the leader epoch falls at TOPIC-N:O

-- a lesser epoch than that of the entry before
abbrev pub is_fall : Option ℤ → ℤ → Bool
is_fall None epoch = false
is_fall (Some last) epoch = int_lt epoch last

-- behind an entry of this epoch, or at the first: where the first entry begins that has a lesser epoch than the one before
abbrev pub falls_at : Option ℤ → List EpochEntry → Option ℕ
falls_at last [] = None
falls_at last (e ∷ es) = if is_fall last e.epoch then Some e.start_offset else falls_at (Some e.epoch) es

abbrev pub fall_note : PartitionName → Option ℕ → List Note
fall_note name None = []
fall_note name (Some offset) = EpochFalls name offset ∷ []

abbrev pub fall_at : PartitionName → List EpochEntry → List Note
fall_at name entries = fall_note name (falls_at None entries)

-- of partitions of these names with these entries, one after the other
abbrev pub by_entries : (PartitionName → List EpochEntry → List Note) → List PartitionName → List (List EpochEntry) → List Note
by_entries note [] entries = []
by_entries note (n ∷ ns) [] = []
by_entries note (n ∷ ns) (es ∷ ess) = note n es ++ by_entries note ns ess

abbrev pub falls : List PartitionName → List (List EpochEntry) → List Note
falls names entries = by_entries fall_at names entries
