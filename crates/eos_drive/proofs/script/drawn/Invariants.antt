use Rattle.std.proofs.Common.{◌≡◌}
use Rattle.eos_drive.specs.Words.{words_from}
use Rattle.eos_drive.proofs.Drawing.{after_words}
use Rattle.eos_drive.proofs.script.drawn.Given as goal

abbrev pub invariant-loop : goal.invariant-loop
invariant-loop l = (l.words.items ≡ words_from l.counter l.fn.generator) × (l.generator ≡ after_words l.counter l.fn.generator)
