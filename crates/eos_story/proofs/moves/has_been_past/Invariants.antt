use Rattle.std.proofs.Common.{◌≡◌, drop}
use Rattle.std.specs.List.{list_any}
use Rattle.eos_story.specs.GroupCommits.{was_past}
use Rattle.eos_story.proofs.moves.has_been_past.Given as goal

abbrev pub invariant-loop-row : goal.invariant-loop-row
invariant-loop-row l = list_any (was_past l.find) l.rows ≡ list_any (was_past l.find) (drop l.row-index l.rows)
