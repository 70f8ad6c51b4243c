use Rattle.std.proofs.Common.{◌≡◌, false, length, take}
use Rattle.eos_source.specs.Said.{known_by}
use Rattle.eos_explaining.specs.steps.Again.{AreAbsent, ReadsMore}
use Rattle.eos_explaining.proofs.again.read_each.Given as goal

abbrev pub invariant-loop-folds : goal.invariant-loop-folds
invariant-loop-folds g l = ReadsMore (known_by (g.S.Source.said l.pieces.source.now) (g.S.Source.is_log l.pieces.source.now)) l.pieces.shape.now.partitions l.fn.read.items l.read.items
    × (l.more ≡ false → AreAbsent l.pieces.shape.now.partitions l.fn.read.items l.read.items (take (length l.yielded) l.names))
