use Rattle.eos_report.specs.Pages.{kinds_part}
use Rattle.eos_report.proofs.LastCalls.{last}
use Rattle.eos_report.proofs.page.push_kinds.Goals as goal

pub returns : goal.returns
unfolding kinds_part
returns c = last _ _ _ c.in_ok-push_text.ensures (last _ _ _ (rw c.phases.ensures at c.in_ok-push_phases.ensures) c.push_text-2.ensures)
