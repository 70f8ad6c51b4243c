-- What was read is written again, and has to be the text of the value that was read.
use Rattle.std.proofs.Common.{◌≡◌, ◌∙◌, None, Some, sym, ap}
use Rattle.eos_history_lines.proofs.ReadBack.{row_back}
use Rattle.eos_history_lines.specs.Lines.{row_value}
use Rattle.eos_history_lines.specs.steps.Reading.{row_in}
use Rattle.eos_history_lines.proofs.rows.exact_row.Goals as goal

pub returns-in-None-clause-none : goal.returns-in-None-clause-none
returns-in-None-clause-none c = λ _ x fits is.
    let bad : None ≡ Some x = sym c.in-None.is ∙ c.in_ok-found.ensures ∙ ap row_in is ∙ row_back x fits in
    absurd (cc bad)

pub returns-then-same-clause-some : goal.returns-then-same-clause-some
returns-then-same-clause-some c = c.in-Ok.ensures.same c.if-same.true

pub returns-then-same-clause-none : goal.returns-then-same-clause-none
returns-then-same-clause-none c = λ bad. absurd (cc bad)

pub returns-else-same-clause-none : goal.returns-else-same-clause-none
returns-else-same-clause-none c = λ _ x fits is.
    let both : Some c.in-Some.row ≡ Some x = sym c.in-Some.is ∙ c.in_ok-found.ensures ∙ ap row_in is ∙ row_back x fits in
    let one : c.in-Some.row ≡ x = cc both in
    c.in-Ok.ensures.differ c.if-same.false (is ∙ ap row_value (sym one))
