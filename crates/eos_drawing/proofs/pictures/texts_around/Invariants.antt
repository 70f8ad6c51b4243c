use Rattle.std.proofs.Common.{map, string_bytes}
use Rattle.eos_source.specs.Said.{known_by}
use Rattle.eos_drawing.specs.steps.Pictures.{AreTextsBy}
use Rattle.eos_drawing.proofs.pictures.texts_around.Given as goal

abbrev pub invariant-loop-fault : goal.invariant-loop-fault
invariant-loop-fault g l =
    AreTextsBy (known_by (g.S.Source.said l.pieces.source.now) (g.S.Source.is_log l.pieces.source.now)) l.pieces.shape.now.partitions l.judged l.yielded (map string_bytes l.texts.items)
