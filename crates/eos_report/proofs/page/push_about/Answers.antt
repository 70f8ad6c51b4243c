use Rattle.eos_report.specs.Pages.{about_part}
use Rattle.eos_report.proofs.LastCalls.{last}
use Rattle.eos_report.proofs.page.push_about.Goals as goal

pub returns : goal.returns
unfolding about_part
returns c = last _ _ _ c.in_ok-push_text.ensures (last _ _ _ c.in_ok-push_html.ensures (last _ _ _ c.in_ok-push_text-2.ensures (last _ _ _ c.in_ok-push_html-2.ensures (last _ _ _ c.in_ok-push_value.ensures c.push_text-3.ensures))))
