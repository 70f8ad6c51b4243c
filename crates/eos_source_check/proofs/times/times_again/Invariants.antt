use Rattle.eos_source.specs.Said.{known_by}
use Rattle.eos_source_check.proofs.EachTimes.{EachPassed}
use Rattle.eos_source_check.proofs.times.times_again.Given as goal

abbrev pub invariant-loop-i : goal.invariant-loop-i
invariant-loop-i g l = EachPassed (known_by (g.S.Source.said l.source) (g.S.Source.is_log l.source)) l.first l.names l.offsets l.i l.times.items
