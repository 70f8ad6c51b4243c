use Rattle.std.proofs.Common.{◌≡◌, drop}
use Rattle.std.specs.List.{list_any}
use Rattle.eos_story.specs.GroupCommits.{lacks_passing}
use Rattle.eos_story.proofs.signs.has_none_passing.Given as goal

abbrev pub invariant-loop-row : goal.invariant-loop-row
invariant-loop-row l = list_any lacks_passing l.rows ≡ list_any lacks_passing (drop l.row-index l.rows)
