-- A sign that another record stands where a group had read one. A commit names the leader epoch of the last record that its group had
-- read (KIP-320; Kafka's schema OffsetCommitValue, version 3), and a batch has the epoch of the leader that appended it (Kafka's
-- documentation, Message Format, "Record Batch", partitionLeaderEpoch). Where the two differ, an unclean election put another record
-- there. Of each group's commits of a partition the last one is judged, which gives its committed offset.
use Rattle.std.specs.Prelude.{ℤ, pos, negsuc, Bool, true, false, not, ◌&&◌, List, [], ◌∷◌, map, flat_map, filter, int_lt, Option, Some, None, if◌then◌else◌}
use Rattle.std.specs.Ordering.{int_eq, is_eq}
use Rattle.eos_base.specs.PartitionNames.{name_cmp}
use Rattle.eos_base.specs.declared.partition_name.PartitionName.{PartitionName}
use Rattle.eos_batch.specs.declared.batch.Batch.{Batch}
use Rattle.eos_batch.specs.Offsets.{offset_of}
use Rattle.eos_evidence.specs.declared.application.App.{App}
use Rattle.eos_fold.specs.Parts.{PartLog, part_name}
use Rattle.eos_claims.specs.Outputs.{committed_offset}
use Rattle.eos_commits.specs.Commits.{Group}
use Rattle.eos_commits.specs.EpochCommits.{EpochCommit, epoch_commits_of}
use Rattle.eos_commits.specs.EvidenceLogs.{commits_for}
use Rattle.eos_reading.specs.declared.epoch.EpochEntry.{EpochEntry}
use Rattle.eos_notes.specs.declared.note.Note.{Note}
use Rattle.eos_notes.specs.declared.note.Note.TheVariants.{OtherEpoch}
use Rattle.eos_notes.specs.ReplicaNotes.{by_entries}

-- ---- the last commit

-- the leader epoch that the last one names, or this where there is none
abbrev pub last_epoch : ℤ → List EpochCommit → ℤ
last_epoch otherwise [] = otherwise
last_epoch otherwise (c ∷ cs) = last_epoch c.leader_epoch cs

-- of a partition, beside its committed offset: where there is no commit that is 0, and no record stands before it
abbrev pub committed_epoch : List EpochCommit → PartitionName → ℤ
committed_epoch commits name = last_epoch (pos 0) (filter (λ c. is_eq (name_cmp c.commit.partition name)) commits)

-- ---- the record before its offset

-- the leader epoch of the last batch that begins below this offset, by the entries at which it changes, or this one
abbrev pub epoch_below : ℤ → Option ℤ → List EpochEntry → Option ℤ
epoch_below offset last [] = last
epoch_below offset last (e ∷ es) = epoch_below offset (if int_lt (pos e.start_offset) offset then Some e.epoch else last) es

-- so it is by the batches themselves
abbrev pub epoch_before : ℤ → Option ℤ → List Batch → Option ℤ
epoch_before offset last [] = last
epoch_before offset last (b ∷ bs) = epoch_before offset (if int_lt (pos (offset_of b)) offset then Some b.leader_epoch else last) bs

-- ---- group G committed offset O of TOPIC-N under leader epoch E, but the record before it is of epoch F

-- -1 names none
abbrev pub is_other : ℤ → ℤ → Bool
is_other named found = not (int_eq named (negsuc 0)) && not (int_eq named found)

abbrev pub other_note : Group → PartitionName → ℤ → ℤ → Option ℤ → List Note
other_note group name offset named None = []
other_note group name offset named (Some found) = if is_other named found then OtherEpoch (record { group = group; offset = offset; partition = name; named = named; found = found }) ∷ [] else []

-- what a group has committed of a partition: an offset, and under which leader epoch
abbrev pub Committed : Type 0
Committed = PartitionName → ℤ × ℤ

abbrev pub other_at : Group → Committed → PartitionName → List EpochEntry → List Note
other_at group committed name entries = other_note group name (committed name).0 (committed name).1 (epoch_below (committed name).0 None entries)

abbrev pub committed_by : List PartLog → App → Committed
committed_by logs app name = (committed_offset (commits_for logs app) name, committed_epoch (epoch_commits_of app.group app.sources logs) name)

abbrev pub others_in : List PartLog → List (List EpochEntry) → App → List Note
others_in logs epochs app = by_entries (other_at app.group (committed_by logs app)) (map part_name logs) epochs

abbrev pub others : List PartLog → List (List EpochEntry) → List App → List Note
others logs epochs apps = flat_map (others_in logs epochs) apps

-- where a log has a fault it isn't known which commits are visible
abbrev pub others_unless : Bool → List PartLog → List (List EpochEntry) → List App → List Note
others_unless true logs epochs apps = []
others_unless false logs epochs apps = others logs epochs apps
