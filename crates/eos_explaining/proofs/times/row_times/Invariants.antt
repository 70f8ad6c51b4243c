use Rattle.std.proofs.Common.{◌≤◌, ◌-◌, length, take}
use Rattle.eos_source.specs.Said.{known_by}
use Rattle.eos_explaining.specs.steps.Times.{AreTimesKnown}
use Rattle.eos_explaining.proofs.times.row_times.Given as goal

abbrev pub invariant-loop-first : goal.invariant-loop-first
invariant-loop-first g l = (l.first ≤ length l.names) × AreTimesKnown (known_by (g.S.Source.said l.pieces.source.now) (g.S.Source.is_log l.pieces.source.now)) l.pieces.shape.now l.rows (take l.first l.names) l.found.items

abbrev pub decreases-loop-first : goal.decreases-loop-first
decreases-loop-first g l = length l.names - l.first
