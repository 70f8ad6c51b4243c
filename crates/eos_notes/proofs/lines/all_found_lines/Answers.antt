use Rattle.std.proofs.Common.{◌∙◌, ap}
use Rattle.std.proofs.lemmas.Result.{IfOk-weaker}
use Rattle.eos_notes.specs.Texts.{note_lines}
use Rattle.eos_notes.proofs.lines.all_found_lines.Goals as goal

pub returns : goal.returns
returns c = λ order.
    IfOk-weaker c.note_lines.result _ _ (λ text is. (c.in_ok-found.found.items, c.in_ok-found.ensures order, is ∙ ap note_lines c.as_slice.ensures.value)) c.note_lines.ensures
