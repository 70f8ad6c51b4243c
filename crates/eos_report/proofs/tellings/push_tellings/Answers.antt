use Rattle.eos_report.specs.Tellings.{tellings_text}
use Rattle.eos_report.proofs.LastCalls.{last}
use Rattle.eos_report.proofs.tellings.push_tellings.Goals as goal

pub returns : goal.returns
unfolding tellings_text
returns c = last _ _ _ (rw c.is_empty.ensures at c.in_ok-push_heading.ensures) c.push_items.ensures
