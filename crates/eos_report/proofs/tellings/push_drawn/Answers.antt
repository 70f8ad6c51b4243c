use Rattle.eos_report.specs.Tellings.{shown_picture}
use Rattle.eos_report.proofs.LastCalls.{last}
use Rattle.eos_report.proofs.tellings.push_drawn.Goals as goal

pub returns : goal.returns
unfolding shown_picture
returns c = last _ _ _ c.in_ok-push_text.ensures (last _ _ _ c.in_ok-push_text-2.ensures c.push_text-3.ensures)
