use Rattle.std.proofs.Common.{◌≡◌, false, take}
use Rattle.std.specs.List.{list_any}
use Rattle.eos_base.specs.Members.{is_found}
use Rattle.eos_base.specs.PartitionNames.{name_cmp}
use Rattle.eos_txnlog.specs.PartitionSets.{name_of, names_in_topic}
use Rattle.eos_txnlog.proofs.partition_sets.lists.Given as goal

abbrev pub invariant-loop-t : goal.invariant-loop-t
invariant-loop-t l = list_any (λ t. is_found name_cmp (names_in_topic t) (name_of l.topic l.number)) (take l.t-index l.partitions) ≡ false
