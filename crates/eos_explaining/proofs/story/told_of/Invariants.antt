use Rattle.eos_source.specs.Said.{known_by}
use Rattle.eos_explaining.specs.steps.Again.{ReadsMore}
use Rattle.eos_explaining.proofs.story.told_of.Given as goal

abbrev pub invariant-loop : goal.invariant-loop
invariant-loop g l = ReadsMore (known_by (g.S.Source.said l.pieces.source.now) (g.S.Source.is_log l.pieces.source.now)) l.pieces.shape.now.partitions l.fn.read.items l.read.items
