use Rattle.std.proofs.Common.{◌≡◌, drop}
use Rattle.std.specs.List.{list_any}
use Rattle.std.specs.Option.{option_copied}
use Rattle.eos_story.specs.GroupCommits.{is_by_writer}
use Rattle.eos_story.proofs.moves.has_writer.Given as goal

abbrev pub invariant-loop-row : goal.invariant-loop-row
invariant-loop-row l = list_any (is_by_writer (option_copied l.place) l.writer) l.rows ≡ list_any (is_by_writer (option_copied l.place) l.writer) (drop l.row-index l.rows)
