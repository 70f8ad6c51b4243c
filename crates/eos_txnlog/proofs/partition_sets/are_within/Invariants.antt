use Rattle.std.proofs.Common.{◌≡◌, true, take}
use Rattle.eos_txnlog.specs.PartitionSets.{are_within}
use Rattle.eos_txnlog.proofs.partition_sets.are_within.Given as goal

abbrev pub invariant-loop-name : goal.invariant-loop-name
invariant-loop-name l = are_within (take l.name-index l.few) l.many ≡ true
