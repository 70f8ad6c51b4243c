-- The leader epochs of a front's batches, by the offsets at which they change.
-- Source: Kafka's documentation, Message Format, "Record Batch" (partitionLeaderEpoch); KIP-101, whose leader epoch sequence file (in a
-- broker's folders leader-epoch-checkpoint) has such entries for each partition.
use Rattle.std.specs.Prelude.{ℕ, ℤ, List, [], ◌∷◌, ◌++◌, Option, Some, None, Bool, true, false, not}
use Rattle.std.specs.Ordering.{int_eq}
use Rattle.eos_batch.specs.declared.batch.Batch.{Batch}
use Rattle.eos_batch.specs.Offsets.{offset_of}
use Rattle.eos_reading.specs.declared.epoch.EpochEntry.{EpochEntry}

-- another epoch than that of the batch before, or the first
abbrev pub is_change : Option ℤ → ℤ → Bool
is_change None epoch = true
is_change (Some last) epoch = not (int_eq last epoch)

abbrev pub entry_at : Bool → ℕ → ℤ → List EpochEntry
entry_at false offset epoch = []
entry_at true offset epoch = record { epoch = epoch; start_offset = offset } ∷ []

-- behind a batch of this epoch, or of all: the epoch and the offset of each batch that has another epoch than the batch before
abbrev pub epoch_entries : Option ℤ → List Batch → List EpochEntry
epoch_entries last [] = []
epoch_entries last (b ∷ bs) = entry_at (is_change last b.leader_epoch) (offset_of b) b.leader_epoch ++ epoch_entries (Some b.leader_epoch) bs

-- the epoch behind these entries, which follow a batch of this epoch, or are the first
abbrev pub epoch_behind : Option ℤ → List EpochEntry → Option ℤ
epoch_behind last [] = last
epoch_behind last (e ∷ es) = epoch_behind (Some e.epoch) es

-- entries of batches that follow one of this epoch: the first of them is one only where its epoch is another
abbrev pub entries_behind : Option ℤ → List EpochEntry → List EpochEntry
entries_behind last [] = []
entries_behind last (e ∷ es) = entry_at (is_change last e.epoch) e.start_offset e.epoch ++ es
