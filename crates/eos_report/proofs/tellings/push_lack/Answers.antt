use Rattle.eos_report.specs.Tellings.{lack_text}
use Rattle.eos_report.proofs.LastCalls.{last}
use Rattle.eos_report.proofs.tellings.push_lack.Goals as goal

pub returns : goal.returns
unfolding lack_text
returns c = last _ _ _ c.in_ok-push_text.ensures (last _ _ _ c.in_ok-push_text-2.ensures (last _ _ _ c.in_ok-push_text-3.ensures (last _ _ _ c.in_ok-push_html.ensures c.push_text-4.ensures)))
