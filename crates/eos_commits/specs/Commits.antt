-- What the visible records of Kafka's offsets log say (KIP-98, "AddOffsetCommitsToTxn"; KIP-447): which offsets a consumer
-- group has committed, of which partitions that it reads. A commit is visible as any record is.
use Rattle.std.specs.Prelude.{◌≡◌, ℕ, ℤ, ◌&&◌, Bool, Option, Some, None, option_map, Result, Ok, Err, List, [], ◌∷◌, filter, flat_map, codes, if◌then◌else◌}
use Rattle.std.specs.Ordering.{nat_cmp, is_eq}
use Rattle.std.specs.Cmp.Lexicographic.{slice_cmp}
use Rattle.eos_base.specs.declared.record_fault.RecordFault.{RecordFault}
use Rattle.eos_base.specs.declared.record_fault.RecordFault.TheVariants.{Short}
use Rattle.eos_base.specs.declared.partition_name.PartitionName.{PartitionName}
use Rattle.eos_base.specs.Members.{Has, is_found}
use Rattle.eos_offsets.specs.declared.key.OffsetKey.{OffsetKey}
use Rattle.eos_offsets.specs.Reading.{read_key, read_value}
use Rattle.eos_evidence.specs.declared.application.App.{App}
use Rattle.eos_fold.specs.declared.item.Item.{Item}
use Rattle.eos_fold.specs.Parts.{PartLog}
use Rattle.eos_claims.specs.Outputs.{Writer, Commit}
use Rattle.eos_commits.specs.Visible.{visible}

abbrev pub Topic : Type 0
Topic = List ℕ

abbrev pub Group : Type 0
Group = List ℕ

abbrev pub is_same : List ℕ → List ℕ → Bool
is_same a b = is_eq (slice_cmp nat_cmp a b)

abbrev pub is_offsets_part : PartLog → Bool
is_offsets_part p = is_same p.topic (codes "__consumer_offsets")

-- the partitions of `__consumer_offsets`
abbrev pub offsets_parts : List PartLog → List PartLog
offsets_parts ps = filter is_offsets_part ps

-- ---- what a record says

abbrev pub key_at : Option (List ℕ) → Result (Option OffsetKey) RecordFault
key_at None = Err Short
key_at (Some key) = read_key key

-- a group and a partition, or None for a key of another version, which is of no commit; a null key doesn't read
abbrev pub key_of : Item → Result (Option OffsetKey) RecordFault
key_of x = key_at x.key

-- the offset, or why it doesn't read; None for a null value, which deletes what was committed
abbrev pub value_of : Item → Option (Result ℤ RecordFault)
value_of x = option_map read_value x.value

-- ---- the commits of a group that reads these topics

abbrev pub is_of : Group → List Topic → OffsetKey → Bool
is_of group sources key = is_same group key.group && is_found (slice_cmp nat_cmp) sources key.topic

abbrev pub source_of : OffsetKey → PartitionName
source_of key = record { topic = key.topic; partition = key.partition }

abbrev pub commit_with : OffsetKey → Option (Result ℤ RecordFault) → Option Writer → List Commit
commit_with key None writer = []
commit_with key (Some (Err fault)) writer = []
commit_with key (Some (Ok offset)) writer = record { partition = source_of key; offset = offset; writer = writer } ∷ []

-- under a key of which the test holds
abbrev pub commit_under : (OffsetKey → Bool) → Result (Option OffsetKey) RecordFault → Item → List Commit
commit_under ours (Err fault) x = []
commit_under ours (Ok None) x = []
commit_under ours (Ok (Some key)) x = if ours key then commit_with key (value_of x) x.writer else []

-- the commit that a record is, if it is one
abbrev pub commit_in : Group → List Topic → Item → List Commit
commit_in group sources x = commit_under (is_of group sources) (key_of x) x

abbrev pub commits_in : Group → List Topic → PartLog → List Commit
commits_in group sources p = flat_map (commit_in group sources) (visible p)

-- in the order of the log, one partition of `__consumer_offsets` after the other
abbrev pub commits_of : Group → List Topic → List PartLog → List Commit
commits_of group sources ps = flat_map (commits_in group sources) (offsets_parts ps)

-- ---- the records that have to be commits

-- its key names a group of an application and one of that application's source topics
pub record IsUnderGroup (apps : List App) (group : Group) (x : Item) : Type 0 where
  pub key : OffsetKey
  pub reads : key_of x ≡ Ok (Some key)
  pub app : App
  pub has : Has apps app
  pub app_group : app.group ≡ group
  pub key_group : key.group ≡ group
  pub source : Has app.sources key.topic
