use Rattle.eos_report.proofs.LastCalls.{last}
use Rattle.eos_report.proofs.page.push_told.Goals as goal

pub returns : goal.returns
returns c = last _ _ _ c.in_ok-push_kinds.ensures c.push_first.ensures
