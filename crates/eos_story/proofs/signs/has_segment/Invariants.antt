use Rattle.std.proofs.Common.{◌≡◌, drop}
use Rattle.std.specs.List.{list_any}
use Rattle.eos_story.specs.Signs.{is_segment}
use Rattle.eos_story.proofs.signs.has_segment.Given as goal

abbrev pub invariant-loop-row : goal.invariant-loop-row
invariant-loop-row l = list_any is_segment l.rows ≡ list_any is_segment (drop l.row-index l.rows)
