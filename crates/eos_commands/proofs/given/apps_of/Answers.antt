use Rattle.std.proofs.Common.{◌≡◌, None, List, Some, sym, ap, ◌∙◌, rules}
use Rattle.eos_evidence.specs.declared.application.App.{App}
use Rattle.eos_manifest.specs.AppWords.{app_in_word}
use Rattle.eos_commands.proofs.WordsRefused.{word_next, all_words, first_word}
use Rattle.eos_commands.proofs.given.apps_of.Goals as goal

pub loop-at-preserved : goal.loop-at-preserved
loop-at-preserved c =
    word_next c.args.words.now c.loop-at.at _ c.loop-at.apps.items c.push.new.self.items c.in-Some.app c.loop-at-test.true c.loop-at.invariant
    (sym c.in-Some.is ∙ (c.in_ok-app.ensures ∙ ap app_in_word c.as_bytes.ensures.value)) c.in_ok-push.ensures.items

pub returns-clause-ok : goal.returns-clause-ok
returns-clause-ok c = all_words c.args.words.now c.loop-at.at c.loop-at.apps.items c.loop-at-test.false c.loop-at.invariant ∙ ap (λ (xs : List App). Some xs) (sym c.new.ensures)

pub returns-in_default-clause-refused : goal.returns-in_default-clause-refused
returns-in_default-clause-refused c =
    let none : c.in_ok-app.field-0 ≡ None = search rules in
    first_word c.args.words.now c.loop-at.at _ c.loop-at.apps.items c.loop-at-test.true c.loop-at.invariant (sym none ∙ (c.in_ok-app.ensures ∙ ap app_in_word c.as_bytes.ensures.value))
