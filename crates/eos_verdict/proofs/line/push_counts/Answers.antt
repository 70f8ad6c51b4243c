use Rattle.eos_verdict.specs.VerdictTexts.{counts_text}
use Rattle.eos_text.proofs.Appended.{then}
use Rattle.eos_verdict.proofs.line.push_counts.Goals as goal

pub returns : goal.returns
unfolding counts_text
returns c = then c.in_ok-push_value.ensures (then c.in_ok-push_value-2.ensures c.in_ok-push_value-3.ensures)
