use Rattle.std.proofs.Common.{◌≡◌, drop}
use Rattle.std.specs.List.{list_any}
use Rattle.eos_story.specs.Signs.{is_segment_below}
use Rattle.eos_story.proofs.signs.has_segment_below.Given as goal

abbrev pub invariant-loop-row : goal.invariant-loop-row
invariant-loop-row l = list_any (is_segment_below l.offset) l.rows ≡ list_any (is_segment_below l.offset) (drop l.row-index l.rows)
