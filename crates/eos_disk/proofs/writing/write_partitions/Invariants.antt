-- The partitions so far are written.
use Rattle.std.proofs.Common.{take}
use Rattle.eos_disk.specs.Writing.{PartitionsWritten}
use Rattle.eos_disk.proofs.writing.write_partitions.Given as goal

abbrev pub invariant-loop-partition : goal.invariant-loop-partition
invariant-loop-partition g l = PartitionsWritten (g.D.Disk.holds l.fn.disk) l.folder (take l.partition-index l.partitions) (g.D.Disk.holds l.disk)
