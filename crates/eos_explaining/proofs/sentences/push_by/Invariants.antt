use Rattle.std.proofs.Common.{◌≡◌, drop, string_bytes}
use Rattle.std.specs.Option.{option_copied}
use Rattle.eos_explaining.specs.Sentences.{sentences_text}
use Rattle.eos_explaining.proofs.sentences.push_by.Given as goal

abbrev pub invariant-loop-case : goal.invariant-loop-case
invariant-loop-case l = (string_bytes l.out ≡ string_bytes l.fn.out) × (sentences_text (option_copied l.told.place) l.told.rows.now l.page l.cases ≡ sentences_text (option_copied l.told.place) l.told.rows.now l.page (drop l.case-index l.cases))
