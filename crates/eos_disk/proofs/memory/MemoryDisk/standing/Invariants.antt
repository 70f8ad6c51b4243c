-- What the changes so far leave there.
use Rattle.std.proofs.Common.{◌≡◌, drop, option_map}
use Rattle.eos_disk.specs.Memory.{standing_after, standing_in}
use Rattle.eos_disk.specs.steps.Found.{known_standing}
use Rattle.eos_disk.proofs.memory.MemoryDisk.standing.Given as goal

abbrev pub invariant-loop-change : goal.invariant-loop-change
invariant-loop-change l =
    standing_after (known_standing (option_map (λ s. s.now) l.found)) (drop l.change-index l.self.changes.items) l.path ≡ standing_in l.self.changes.items l.path
