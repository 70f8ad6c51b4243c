use Rattle.std.proofs.Common.{◌∙◌}
use Rattle.eos_report.specs.Pages.{notes_part}
use Rattle.eos_report.proofs.LastCalls.{last}
use Rattle.eos_report.proofs.page.push_notes.Goals as goal

pub returns : goal.returns
unfolding notes_part
returns c =
    let lines = rw (c.as_str.ensures.value ∙ c.in_ok-lines.ensures) at c.in_ok-push_html.ensures in
    last _ _ _ c.in_ok-push_text.ensures (last _ _ _ lines c.push_text-2.ensures)
