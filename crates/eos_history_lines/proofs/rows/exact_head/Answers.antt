-- What was read is written again, and has to be the text of the value that was read.
use Rattle.std.proofs.Common.{◌≡◌, ◌∙◌, None, Some, sym, ap}
use Rattle.eos_history_lines.proofs.PlainLines.{head_flat}
use Rattle.eos_history_lines.proofs.ReadBack.{head_back}
use Rattle.eos_history_lines.specs.Lines.{head_value}
use Rattle.eos_history_lines.specs.steps.Reading.{head_in}
use Rattle.eos_history_lines.proofs.rows.exact_head.Goals as goal

pub returns-in_default-clause-none : goal.returns-in_default-clause-none
returns-in_default-clause-none c = λ _ x is.
    let bad : None ≡ Some x = sym c.in_default.is ∙ c.read_head.ensures ∙ ap head_in is ∙ head_back x in
    absurd (cc bad)

pub returns-then-same-clause-some : goal.returns-then-same-clause-some
returns-then-same-clause-some c = c.in_ok-same.ensures.same c.if-same.true _ c.in_ok-written.ensures.says c.in_ok-written.ensures.reads

pub returns-then-same-clause-none : goal.returns-then-same-clause-none
returns-then-same-clause-none c = λ bad. absurd (cc bad)

pub returns-clause-none : goal.returns-clause-none
returns-clause-none c = λ _ x is.
    let both : Some c.in-Some.head ≡ Some x = sym c.in-Some.is ∙ c.read_head.ensures ∙ ap head_in is ∙ head_back x in
    let one : c.in-Some.head ≡ x = cc both in
    c.in_ok-same.ensures.differ c.if-same.false _ c.in_ok-written.ensures.says (head_flat c.in-Some.head).plain (is ∙ ap head_value (sym one))
