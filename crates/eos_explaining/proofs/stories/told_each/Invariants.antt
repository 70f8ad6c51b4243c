use Rattle.std.proofs.Common.{map, take, string_bytes}
use Rattle.eos_source.specs.Said.{known_by}
use Rattle.eos_explaining.specs.steps.Again.{ReadsMore, AreToldBy}
use Rattle.eos_explaining.proofs.stories.told_each.Given as goal

abbrev pub invariant-loop-i : goal.invariant-loop-i
invariant-loop-i g l =
    ReadsMore (known_by (g.S.Source.said l.pieces.source.now) (g.S.Source.is_log l.pieces.source.now)) l.pieces.shape.now.partitions l.fn.read.items l.read.items
    × AreToldBy (known_by (g.S.Source.said l.pieces.source.now) (g.S.Source.is_log l.pieces.source.now)) l.pieces.shape.now l.read.items l.about (take l.i l.told) (map string_bytes l.texts.items)
