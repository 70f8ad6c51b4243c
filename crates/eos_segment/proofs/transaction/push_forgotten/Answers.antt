use Rattle.eos_segment.specs.DecodedLines.{forgotten_line}
use Rattle.eos_text.proofs.Appended.{then}
use Rattle.eos_segment.proofs.transaction.push_forgotten.Goals as goal

pub returns : goal.returns
unfolding forgotten_line
returns c = then c.in_ok-push_escaped.ensures c.in_ok-push_text.ensures
