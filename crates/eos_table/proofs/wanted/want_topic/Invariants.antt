use Rattle.std.proofs.Common.{take, map}
use Rattle.eos_txnlog.specs.PartitionSets.{name_of}
use Rattle.eos_table.specs.steps.Wanted.{wishes_in, Take}
use Rattle.eos_table.proofs.wanted.want_topic.Given as goal

abbrev pub invariant-loop-partition : goal.invariant-loop-partition
invariant-loop-partition l = Take l.parts (wishes_in l.close (map (name_of l.topic.topic) (take l.partition-index l.topic.numbers))) l.fn.lists.items l.lists.items
