use Rattle.eos_text.proofs.Appended.{then}
use Rattle.eos_segment.proofs.lines.push_end.Goals as goal

pub returns : goal.returns
returns c = then c.in_ok-push_value.ensures c.in_ok-push_text.ensures
