use Rattle.std.proofs.Common.{take}
use Rattle.eos_txnlog.specs.PartitionSets.{names_of}
use Rattle.eos_table.specs.steps.Wanted.{wishes_in, Take}
use Rattle.eos_table.proofs.wanted.want_decision.Given as goal

abbrev pub invariant-loop-topic : goal.invariant-loop-topic
invariant-loop-topic l = Take l.parts (wishes_in l.close (names_of (take l.topic-index l.decision.partitions))) l.fn.lists.items l.lists.items
