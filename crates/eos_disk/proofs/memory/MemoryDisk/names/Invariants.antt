-- The names of the changes so far.
use Rattle.std.proofs.Common.{◌≡◌, [], drop}
use Rattle.eos_disk.specs.Memory.{names_after}
use Rattle.eos_disk.proofs.memory.MemoryDisk.names.Given as goal

abbrev pub invariant-loop-change : goal.invariant-loop-change
invariant-loop-change l = names_after l.self.changes.items l.names.items (drop l.change-index l.self.changes.items) l.folder ≡ names_after l.self.changes.items [] l.self.changes.items l.folder
