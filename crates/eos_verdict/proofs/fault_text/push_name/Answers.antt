use Rattle.std.proofs.Common.{append_assoc}
use Rattle.eos_text.proofs.Appended.{then}
use Rattle.eos_verdict.proofs.fault_text.push_name.Goals as goal

pub returns : goal.returns
returns c = simp append_assoc at (then c.in_ok-push_escaped.ensures c.in_ok-push_value.ensures)
