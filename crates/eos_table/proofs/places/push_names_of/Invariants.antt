use Rattle.std.proofs.Common.{◌≡◌, take, map, fold}
use Rattle.std.specs.List.{flat_map}
use Rattle.eos_txnlog.specs.PartitionSets.{names_of}
use Rattle.eos_table.specs.steps.Keys.{plain_name, plain_ended}
use Rattle.eos_table.specs.steps.Shown.{found, name_by}
use Rattle.eos_table.proofs.places.push_names_of.Given as goal

abbrev pub invariant-loop-topic : goal.invariant-loop-topic
invariant-loop-topic l = l.faults ≡ fold found l.fn.faults (flat_map (name_by (map plain_name l.there) (map plain_ended l.marked) l.decision) (names_of (take l.topic-index l.decision.partitions)))
