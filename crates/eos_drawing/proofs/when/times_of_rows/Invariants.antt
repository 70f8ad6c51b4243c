use Rattle.std.proofs.Common.{take}
use Rattle.eos_source.specs.Said.{known_by}
use Rattle.eos_drawing.specs.Whens.{AreTimesOfRows}
use Rattle.eos_drawing.proofs.when.times_of_rows.Given as goal

abbrev pub invariant-loop-row : goal.invariant-loop-row
invariant-loop-row g l = AreTimesOfRows (known_by (g.S.Source.said l.source) (g.S.Source.is_log l.source)) l.shape.partitions (take l.row-index l.rows) l.times.items
