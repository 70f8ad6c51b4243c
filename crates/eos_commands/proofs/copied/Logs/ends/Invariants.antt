-- These are the ends of the partitions so far.
use Rattle.std.proofs.Common.{take}
use Rattle.eos_commands.specs.Copies.{AreEndsOfCopies}
use Rattle.eos_commands.proofs.copied.Logs.ends.Given as goal

abbrev pub invariant-loop-name : goal.invariant-loop-name
invariant-loop-name g l = AreEndsOfCopies (g.D.Disk.holds l.self.disk.now) l.self.folder.now l.folders (take l.name-index l.names) l.ends.items
