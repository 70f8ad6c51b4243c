use Rattle.eos_report.specs.Pages.{title_text}
use Rattle.eos_report.proofs.LastCalls.{last}
use Rattle.eos_report.proofs.page.push_title.Goals as goal

pub returns : goal.returns
unfolding title_text
returns c = last _ _ _ c.in_ok-push_text.ensures (last _ _ _ c.in_ok-push_html.ensures c.push_text-2.ensures)
