use Rattle.std.proofs.Common.{take}
use Rattle.eos_source.specs.Said.{known_by}
use Rattle.eos_source_check.specs.steps.PicksAgain.{ArePicksAgain}
use Rattle.eos_source_check.proofs.picks.batches_at.Given as goal

abbrev pub invariant-loop-i : goal.invariant-loop-i
invariant-loop-i g l = ArePicksAgain (known_by (g.S.Source.said l.source) (g.S.Source.is_log l.source)) l.first (take l.i l.names) l.places l.found.items
