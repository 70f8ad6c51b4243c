-- The tables by an evidence's logs, the least faults of its partitions, and what is counted of their segments: the logs may be
-- kept ones, of which neither can be said any more.
use Rattle.std.specs.Prelude.{Bool, List, length, map, Option, None, Some, is_some, if◌then◌else◌}
use Rattle.std.specs.List.{zip}
use Rattle.eos_evidence.specs.declared.application.App.{App}
use Rattle.eos_touch.specs.declared.fault.PartitionFault.{PartitionFault}
use Rattle.eos_fold.specs.Parts.{PartLog}
use Rattle.eos_kept.specs.Faults.{first_of}
use Rattle.eos_commits.specs.Commits.{Topic}
use Rattle.eos_commits.specs.Visible.{visible}
use Rattle.eos_notes.specs.declared.tally.Counted.{Counted}
use Rattle.eos_notes.specs.declared.tally.GroupTally.{GroupTally}
use Rattle.eos_notes.specs.declared.tally.PartitionTally.{PartitionTally}
use Rattle.eos_notes.specs.declared.tally.Tallies.{Tallies}
use Rattle.eos_notes.specs.declared.tally.TopicRoles.{TopicRoles}
use Rattle.eos_notes.specs.PartitionTallies.{roles_of}
use Rattle.eos_notes.specs.GroupTallies.{group_tally}

-- a partition's log with its fault and its counts
abbrev pub Beside : Type 0
Beside = PartLog × (Option PartitionFault × Counted)

abbrev pub beside : List PartLog → List (Option PartitionFault) → List Counted → List Beside
beside logs faults counted = zip logs (zip faults counted)

abbrev pub partition_tally : (Topic → TopicRoles) → Beside → PartitionTally
partition_tally roles b = record {
  topic = b.0.topic;
  partition = b.0.number;
  roles = roles b.0.topic;
  end = b.0.end;
  batches = b.1.1.batches;
  data_records = length b.0.items;
  visible_records = if is_some b.1.0 then None else Some (length (visible b.0));
  segments = b.1.1.segments;
  bytes = b.1.1.bytes;
}

-- one for each application, where no partition's log has a fault
abbrev pub group_tallies : Bool → List PartLog → List App → Option (List GroupTally)
group_tallies faulty logs apps = if faulty then None else Some (map (group_tally logs) apps)

abbrev pub tallies_by : List App → List PartLog → List (Option PartitionFault) → List Counted → Tallies
tallies_by apps logs faults counted = record {
  partitions = map (partition_tally (roles_of apps)) (beside logs faults counted);
  groups = group_tallies (is_some (first_of faults)) logs apps;
}
