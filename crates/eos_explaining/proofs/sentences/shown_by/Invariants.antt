use Rattle.std.proofs.Common.{◌≡◌, drop}
use Rattle.std.specs.Option.{option_copied}
use Rattle.eos_explaining.specs.Sentences.{shown_by}
use Rattle.eos_explaining.proofs.sentences.shown_by.Given as goal

abbrev pub invariant-loop-case : goal.invariant-loop-case
invariant-loop-case l = shown_by (option_copied l.told.place) l.told.rows.now l.cases ≡ shown_by (option_copied l.told.place) l.told.rows.now (drop l.case-index l.cases)
