use Rattle.std.proofs.Common.{◌≡◌, drop}
use Rattle.std.specs.List.{list_any}
use Rattle.eos_story.specs.Signs.{is_twin}
use Rattle.eos_story.proofs.signs.has_twin.Given as goal

abbrev pub invariant-loop-row : goal.invariant-loop-row
invariant-loop-row l = list_any (is_twin l.find) l.rows ≡ list_any (is_twin l.find) (drop l.row-index l.rows)
