use Rattle.std.proofs.Common.{◌/◌, length}
use Rattle.eos_disk.proofs.Changed.{half_is}
use Rattle.eos_disk.proofs.memory_changes.MemoryDiskDiskMut.write_new.Goals as goal

pub returns-then-fails-clause-err : goal.returns-then-fails-clause-err
returns-then-fails-clause-err c =
    half_is c.args.self.now.changes.items c.put.new.self.changes.items c.args.path.now c.args.bytes.now (length c.args.bytes.now / 2) c.in_ok-put.ensures.ok
