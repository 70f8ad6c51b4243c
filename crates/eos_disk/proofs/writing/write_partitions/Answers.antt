use Rattle.std.proofs.Common.{sym}
use Rattle.eos_disk.proofs.WrittenMore.{next_partition}
use Rattle.eos_disk.proofs.writing.write_partitions.Goals as goal

pub loop-partition-preserved : goal.loop-partition-preserved
loop-partition-preserved g c =
    next_partition (g.D.Disk.holds c.args.disk.now) (g.D.Disk.holds c.loop-partition.disk) (g.D.Disk.holds c.write_partition.new.disk) c.args.folder.now c.args.partitions.now c.loop-partition.partition-index
    c.partition-item.result c.partition-item.result c.loop-partition-test.true (sym c.partition-item.is) c.loop-partition.invariant c.in_ok-write_partition.ensures
