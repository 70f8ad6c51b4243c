use Rattle.std.proofs.Common.{◌≡◌, map}
use Rattle.eos_faults.specs.PartitionPlaces.{named}
use Rattle.eos_faults.proofs.log_faults.of_partition.Given as goal

abbrev pub invariant-loop-it : goal.invariant-loop-it
invariant-loop-it l = l.faults.items ≡ map (named l.topic l.partition) l.yielded
