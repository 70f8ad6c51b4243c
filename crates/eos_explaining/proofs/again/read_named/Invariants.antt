use Rattle.std.proofs.Common.{◌≡◌, ◌≤◌, ◌-◌, false, length, take}
use Rattle.eos_source.specs.Said.{known_by}
use Rattle.eos_explaining.specs.steps.Again.{AreAbsent, ReadsMore}
use Rattle.eos_explaining.proofs.again.read_named.Given as goal

abbrev pub invariant-loop-first : goal.invariant-loop-first
invariant-loop-first g l = (l.first ≤ length l.names) × ReadsMore (known_by (g.S.Source.said l.pieces.source.now) (g.S.Source.is_log l.pieces.source.now)) l.pieces.shape.now.partitions l.fn.read.items l.read.items
    × (l.more ≡ false → AreAbsent l.pieces.shape.now.partitions l.fn.read.items l.read.items (take l.first l.names))

abbrev pub decreases-loop-first : goal.decreases-loop-first
decreases-loop-first g l = length l.names - l.first
