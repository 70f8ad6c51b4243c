use Rattle.std.proofs.Common.{◌∙◌}
use Rattle.eos_report.specs.Pages.{verdict_part}
use Rattle.eos_report.proofs.LastCalls.{last}
use Rattle.eos_report.proofs.page.push_verdict.Goals as goal

pub returns : goal.returns
unfolding verdict_part
returns c =
    let line = rw (c.as_str.ensures.value ∙ c.in_ok-line.ensures) at c.in_ok-push_html.ensures in
    last _ _ _ c.in_ok-push_text.ensures (last _ _ _ line (last _ _ _ c.in_ok-push_text-2.ensures c.push_words.ensures))
