use Rattle.eos_report.specs.Tellings.{shown_story}
use Rattle.eos_report.proofs.LastCalls.{last}
use Rattle.eos_report.proofs.tellings.push_shown.Goals as goal

pub returns : goal.returns
unfolding shown_story
returns c = last _ _ _ c.in_ok-push_text.ensures (last _ _ _ c.in_ok-push_html.ensures c.push_text-2.ensures)
