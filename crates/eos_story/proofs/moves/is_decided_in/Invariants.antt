use Rattle.std.proofs.Common.{◌≡◌, drop}
use Rattle.std.specs.List.{list_any}
use Rattle.eos_story.specs.GroupCommits.{decides_in}
use Rattle.eos_story.proofs.moves.is_decided_in.Given as goal

abbrev pub invariant-loop-row : goal.invariant-loop-row
invariant-loop-row l = list_any (decides_in l.producer l.epoch l.name) l.rows ≡ list_any (decides_in l.producer l.epoch l.name) (drop l.row-index l.rows)
