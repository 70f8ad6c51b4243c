use Rattle.std.proofs.Common.{◌≡◌, drop, None}
use Rattle.std.specs.Option.{option_copied}
use Rattle.eos_story.specs.Signs.{bearer_in}
use Rattle.eos_story.proofs.signs.bearer_in.Given as goal

abbrev pub invariant-loop-row : goal.invariant-loop-row
invariant-loop-row l = bearer_in l.sign (option_copied l.told.place) l.told.rows.now None l.rows ≡ bearer_in l.sign (option_copied l.told.place) l.told.rows.now (option_copied l.before) (drop l.row-index l.rows)
