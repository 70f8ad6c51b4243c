use Rattle.std.proofs.Common.{◌≡◌, ◌++◌, take}
use Rattle.eos_txnlog.specs.PartitionSets.{names_of}
use Rattle.eos_txnlog.proofs.partition_sets.push_names.Given as goal

abbrev pub invariant-loop-topic : goal.invariant-loop-topic
invariant-loop-topic l = l.names.items ≡ l.fn.names.items ++ names_of (take l.topic-index l.partitions)
