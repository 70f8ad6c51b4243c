use Rattle.std.proofs.Common.{◌≡◌, ◌++◌, true, drop, string_bytes}
use Rattle.eos_txnlog.specs.PartitionSets.{names_of}
use Rattle.eos_segment.specs.Names.{names_text}
use Rattle.eos_segment.proofs.name.push_names.Given as goal

abbrev pub invariant-loop-topic : goal.invariant-loop-topic
invariant-loop-topic l = string_bytes l.out ++ names_text l.is_first (names_of (drop l.topic-index l.partitions)) ≡ string_bytes l.fn.out ++ names_text true (names_of l.partitions)
