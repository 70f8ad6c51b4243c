use Rattle.std.proofs.Common.{take}
use Rattle.eos_source.specs.Said.{known_by}
use Rattle.eos_source_check.specs.steps.TextsAgain.{AreTextsAgain}
use Rattle.eos_source_check.proofs.texts.texts_of.Given as goal

abbrev pub invariant-loop-i : goal.invariant-loop-i
invariant-loop-i g l = AreTextsAgain (known_by (g.S.Source.said l.source) (g.S.Source.is_log l.source)) l.first (take l.i l.names) l.shape.end.topic l.run
