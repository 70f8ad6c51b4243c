-- The tables by an evidence's logs, the faults of its partitions and what is counted of their segments are the evidence's.
use Rattle.std.proofs.Common.{List, [], ◌∷◌, map, Option, ap, refl}
use Rattle.eos_evidence.specs.declared.partition.Partition.{Partition}
use Rattle.eos_evidence.specs.Evidence.{EvidenceParts}
use Rattle.eos_fold.specs.Parts.{PartLog}
use Rattle.eos_touch.specs.declared.fault.PartitionFault.{PartitionFault}
use Rattle.eos_commits.specs.Commits.{Topic}
use Rattle.eos_commits.specs.EvidenceLogs.{AreLogsOf}
use Rattle.eos_kept.specs.Faults.{AreFaultsIn, first_of}
use Rattle.eos_notes.specs.declared.tally.Counted.{Counted}
use Rattle.eos_notes.specs.declared.tally.TopicRoles.{TopicRoles}
use Rattle.eos_notes.specs.Counts.{AreCounted}
use Rattle.eos_notes.specs.PartitionTallies.{roles_of, ArePartitionTallies}
use Rattle.eos_notes.specs.Tallies.{AreTallies}
use Rattle.eos_notes.specs.TalliesByLogs.{beside, partition_tally, tallies_by}
use Rattle.eos_notes.proofs.FirstNamed.{fault_of, first_named}

rows_whole : (roles : Topic → TopicRoles) (ps : List Partition) (ls : List PartLog) (fs : List (Option PartitionFault)) (cs : List Counted) → AreLogsOf ps ls → AreFaultsIn ps fs → AreCounted ps cs
    → ArePartitionTallies roles ps ls (map (partition_tally roles) (beside ls fs cs))
rows_whole roles [] [] fs cs of named counted = tt
rows_whole roles [] (l ∷ ls) fs cs of named counted = absurd of
rows_whole roles (p ∷ ps) [] fs cs of named counted = absurd of
rows_whole roles (p ∷ ps) (l ∷ ls) [] cs of named counted = absurd named
rows_whole roles (p ∷ ps) (l ∷ ls) (f ∷ fs) [] of named counted = absurd counted
rows_whole roles (p ∷ ps) (l ∷ ls) (f ∷ fs) (c ∷ cs) of named counted = (
  record {
    topic = of.0.log.of_topic;
    partition = of.0.log.of_number;
    roles_are = ap roles of.0.log.of_topic;
    end = of.0.log.until;
    batches = counted.0.batches;
    data_records = refl;
    visible_records = record { fault = f; least = fault_of p l of.0 f named.0; counted = refl };
    segments = counted.0.segments_are;
    bytes = counted.0.bytes_are;
  },
  rows_whole roles ps ls fs cs of.1 named.1 counted.1,
)

pub tallies_are : (e : EvidenceParts) (ls : List PartLog) (fs : List (Option PartitionFault)) (cs : List Counted) → AreLogsOf e.partitions ls → AreFaultsIn e.partitions fs → AreCounted e.partitions cs
    → AreTallies e (tallies_by e.spec.apps ls fs cs)
tallies_are e ls fs cs of named counted = (
  ls,
  of,
  record {
    partitions = rows_whole (roles_of e.spec.apps) e.partitions ls fs cs of named counted;
    groups = record { fault = first_of fs; first = first_named e.partitions ls of fs named; groups = refl };
  },
)
