use Rattle.eos_source.specs.Said.{known_by}
use Rattle.eos_explaining.specs.steps.Seen.{AreSeenSoFar}
use Rattle.eos_explaining.proofs.seen.all_seen.Given as goal

abbrev pub invariant-loop-part : goal.invariant-loop-part
invariant-loop-part g l = AreSeenSoFar (known_by (g.S.Source.said l.pieces.source.now) (g.S.Source.is_log l.pieces.source.now)) l.pieces.shape.now l.yielded l.seen.items
