use Rattle.std.proofs.Common.{◌≡◌, length, take}
use Rattle.eos_source.specs.Said.{known_by}
use Rattle.eos_explaining.specs.steps.Times.{TimesMore}
use Rattle.eos_explaining.proofs.times.time_each.Given as goal

abbrev pub invariant-loop-picked : goal.invariant-loop-picked
invariant-loop-picked g l = (l.number ≡ length l.yielded)
    × TimesMore (known_by (g.S.Source.said l.pieces.source.now) (g.S.Source.is_log l.pieces.source.now)) l.pieces.shape.now l.rows (take l.number l.names) l.fn.found.items l.found.items
