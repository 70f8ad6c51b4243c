use Rattle.std.proofs.Common.{◌≡◌, map, take}
use Rattle.eos_evidence.specs.Evidence.{empty_partition}
use Rattle.eos_evidence.proofs.builder.empty_partitions.Given as goal

abbrev pub invariant-loop-end : goal.invariant-loop-end
invariant-loop-end l = l.partitions.items ≡ map empty_partition (take l.end-index l.ends)
