-- How far each application's group has got: the offsets that it has committed of the partitions that it reads (KIP-98,
-- "AddOffsetCommitsToTxn"; KIP-447), and the visible records below them.
use Rattle.std.specs.Prelude.{◌≡◌, ℕ, ℤ, pos, Bool, List, map, filter, length, int_lt, Option, None, Some, is_some, if◌then◌else◌}
use Rattle.eos_base.specs.declared.partition_name.PartitionName.{PartitionName}
use Rattle.eos_evidence.specs.declared.application.App.{App}
use Rattle.eos_fold.specs.declared.item.Item.{Item}
use Rattle.eos_touch.specs.declared.fault.PartitionFault.{PartitionFault}
use Rattle.eos_fold.specs.LeastFaults.{IsFirstFault}
use Rattle.eos_fold.specs.Parts.{PartLog, part_name}
use Rattle.eos_claims.specs.Outputs.{committed_offset}
use Rattle.eos_commits.specs.Visible.{visible}
use Rattle.eos_commits.specs.Applications.{parts_of}
use Rattle.eos_commits.specs.EvidenceLogs.{commits_for}
use Rattle.eos_notes.specs.declared.tally.SourceTally.{SourceTally}
use Rattle.eos_notes.specs.declared.tally.GroupTally.{GroupTally}

-- the record is below the offset
abbrev pub is_below : ℤ → Item → Bool
is_below offset x = int_lt (pos x.offset) offset

-- so many visible records below the offset
abbrev pub visible_below : ℤ → PartLog → ℕ
visible_below offset p = length (filter (is_below offset) (visible p))

-- of a partition with this committed offset
abbrev pub source_tally_at : ℤ → PartLog → SourceTally
source_tally_at committed p = record {
  topic = p.topic;
  partition = p.number;
  committed = committed;
  end = p.end;
  visible_inputs_below = visible_below committed p;
}

abbrev pub source_tally : (PartitionName → ℤ) → PartLog → SourceTally
source_tally committed p = source_tally_at (committed (part_name p)) p

-- of an application's group, by the partitions of its source topics
abbrev pub group_tally : List PartLog → App → GroupTally
group_tally logs app = record {
  group = app.group;
  sources = map (source_tally (committed_offset (commits_for logs app))) (parts_of app.sources logs);
}

-- one for each application, where no partition's log has a fault
pub record AreGroupTallies (logs : List PartLog) (apps : List App) (tallies : Option (List GroupTally)) : Type 0 where
  pub fault : Option PartitionFault
  pub first : IsFirstFault logs fault
  pub groups : tallies ≡ (if is_some fault then None else Some (map (group_tally logs) apps))
