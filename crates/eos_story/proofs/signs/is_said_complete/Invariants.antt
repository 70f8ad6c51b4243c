use Rattle.std.proofs.Common.{◌≡◌, drop}
use Rattle.std.specs.List.{list_any}
use Rattle.eos_story.specs.Signs.{says_complete}
use Rattle.eos_story.proofs.signs.is_said_complete.Given as goal

abbrev pub invariant-loop-row : goal.invariant-loop-row
invariant-loop-row l = list_any (says_complete l.producer l.epoch) l.rows ≡ list_any (says_complete l.producer l.epoch) (drop l.row-index l.rows)
