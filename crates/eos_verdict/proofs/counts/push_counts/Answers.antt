use Rattle.eos_text.proofs.Appended.{then}
use Rattle.eos_verdict.specs.Counts.{counts_line}
use Rattle.eos_verdict.proofs.counts.push_counts.Goals as goal

pub returns : goal.returns
unfolding counts_line
returns c = then c.in_ok-push_value.ensures (then c.in_ok-push_text.ensures (then c.in_ok-push_kinds.ensures c.in_ok-push_text-2.ensures))
