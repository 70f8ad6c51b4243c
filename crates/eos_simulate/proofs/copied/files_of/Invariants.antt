-- The segments of the partitions so far.
use Rattle.std.proofs.Common.{◌≡◌, take}
use Rattle.eos_evidence.specs.Evidence.{segments_of}
use Rattle.eos_simulate.proofs.copied.files_of.Given as goal

abbrev pub invariant-loop-partition : goal.invariant-loop-partition
invariant-loop-partition l = l.files ≡ segments_of (take l.partition-index l.partitions)
