use Rattle.eos_report.specs.Pages.{first_part}
use Rattle.eos_report.proofs.LastCalls.{last}
use Rattle.eos_report.proofs.page.push_first.Goals as goal

pub returns : goal.returns
unfolding first_part
returns c = last _ _ _ c.in_ok-push_text.ensures (last _ _ _ (rw c.first_of.ensures at c.in_ok-push_items.ensures) c.push_text-2.ensures)
