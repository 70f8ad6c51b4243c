use Rattle.std.proofs.Common.{rules}
use Rattle.eos_disk.proofs.Changed.{set_is}
use Rattle.eos_disk.proofs.memory.MemoryDisk.change.Goals as goal

pub returns-clause-ok : goal.returns-clause-ok
returns-clause-ok c =
    set_is c.args.self.now.changes.items c.push.new.self.items (record { path = c.in_ok-path.path; what = c.args.what }) c.args.path.now (search rules) (search rules)
