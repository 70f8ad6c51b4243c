use Rattle.eos_report.specs.FaultLists.{fault_line}
use Rattle.eos_report.proofs.LastCalls.{last}
use Rattle.eos_report.proofs.listing.push_line.Goals as goal

pub returns : goal.returns
unfolding fault_line
returns c = last _ _ _ c.in_ok-push_text.ensures (last _ _ _ c.in_ok-push_no.ensures c.push_text-2.ensures)
