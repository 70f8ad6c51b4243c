use Rattle.std.proofs.Common.{◌≡◌, ◌++◌, drop, map, string_bytes}
use Rattle.eos_txnlog.specs.PartitionSets.{name_of}
use Rattle.eos_segment.specs.Names.{names_text}
use Rattle.eos_segment.proofs.name.push_topic.Given as goal

abbrev pub invariant-loop-number : goal.invariant-loop-number
invariant-loop-number l =
    string_bytes l.out ++ names_text l.is_first (map (name_of l.topic.topic) (drop l.number-index l.topic.numbers)) ≡ string_bytes l.fn.out ++ names_text l.first (map (name_of l.topic.topic) l.topic.numbers)
