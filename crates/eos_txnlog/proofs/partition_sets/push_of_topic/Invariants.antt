use Rattle.std.proofs.Common.{◌≡◌, ◌++◌, take, map}
use Rattle.eos_txnlog.specs.PartitionSets.{name_of}
use Rattle.eos_txnlog.proofs.partition_sets.push_of_topic.Given as goal

abbrev pub invariant-loop-number : goal.invariant-loop-number
invariant-loop-number l = l.names.items ≡ l.fn.names.items ++ map (name_of l.t.topic) (take l.number-index l.t.numbers)
