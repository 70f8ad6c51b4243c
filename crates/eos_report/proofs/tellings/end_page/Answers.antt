use Rattle.eos_report.specs.Tellings.{end_text}
use Rattle.eos_report.proofs.LastCalls.{last}
use Rattle.eos_report.proofs.tellings.end_page.Goals as goal

pub returns : goal.returns
unfolding end_text
returns c = last _ _ _ c.in_ok-push_tellings.ensures c.push_text.ensures
