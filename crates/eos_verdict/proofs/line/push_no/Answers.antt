use Rattle.eos_text.proofs.Appended.{then}
use Rattle.eos_verdict.proofs.line.push_no.Goals as goal

pub returns : goal.returns
returns c = then c.in_ok-push_text.ensures c.in_ok-push_fault.ensures
